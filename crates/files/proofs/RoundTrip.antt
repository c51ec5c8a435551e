-- THEOREMS on shape files: reading what was written gives the universe and the symbols (`written_read`); writing what was read gives the version 2 file of
-- them (`read_written`, `read_left`), which is the very file that was read where that was of version 2 (`same_bytes`), and otherwise that of equal bits
-- (`first_bytes`). The header's bytes are listed one by one; a count below 2^32 is made of its four bytes, and four bytes are those of what they make.
use Prim.Native.Nat.{ℕ, ◌+◌, ◌-◌, ◌≤◌, ◌<◌}
use native.Mathlib.Omega.{arith}
use native.Mathlib.Decide.{ℕ_discrete}
use mathlib.Core.Path.{◌≡◌, refl, sym, ap, ◌∙◌}
use mathlib.Core.Bool.{Bool, true, false}
use mathlib.Core.Logic.{◌⊎◌, inl, inr}
use mathlib.Core.List.{List, ◌++◌}
use lib.ListN.{length, get_or, drop, length-drop}
use lib.Seq.{take-length, take_all}
use borrow.Author.Tests.{le-leb, eq-eqb, eqb-true}
use Rattle.lemmas.specs.Sums.{every}
use Rattle.lemmas.specs.Grid.{listed}
use Rattle.lemmas.proofs.Grid.{listed_own}
use Rattle.universe.specs.declared.Universe.{Universe}
use Rattle.universe.specs.Universe.{equal_bits}
use Rattle.universe.specs.Lent.{overwritten}
use Rattle.universe.proofs.Lent.{written}
use Rattle.bintree.specs.Told.{WrittenAnswer}
use Rattle.files.specs.Told.{ShapeAnswer, ShapeHeaderAnswer, no_shape_header}
use Rattle.files.specs.Numbers.{u32_at, version_of, has_header}
use Rattle.files.specs.Shapes.{shape_mark, shape_version, shape_header_length, symbol_count, shape_length, most_symbols, symbols_refusal}
use Rattle.files.specs.Shapes.{shape_header_bytes, shape_bytes}
use Rattle.files.specs.Shapes.{write_answer, write_buffer, is_shape, shape_header_of, shape_header, symbols_of, shape_refusal}
use Rattle.files.specs.Shapes.{read_answer, read_buffer}
use Rattle.files.proofs.Refusals.{left_last, left_next, left_accepts, left_others}
use Rattle.files.proofs.Numbers.{first_universe, later_universe, mark_at, u32_back, first_byte, second_byte, third_byte, fourth_byte}
use Rattle.files.proofs.Shapes.{later_read, is_shape_lem, shape_long, shape_checks_lem, read_all, write_all}

file_long : (u : Universe) (s : List ℕ) → shape_length (length s) ≡ length (shape_bytes u s)
unfolding shape_bytes
file_long u s = omega arith

-- what the header of a written file says
module _ (u : Universe) (s : List ℕ) (few : length s ≤ most_symbols) where
  count_back : symbol_count (shape_bytes u s) ≡ length s
  unfolding shape_bytes
  count_back = u32_back (length s) (omega arith)

  is_file : is_shape (shape_bytes u s) ≡ true
  unfolding shape_bytes is_shape has_header every
  is_file =
      let file = shape_bytes u s in
      rw (le-leb (shape_length 0) (length file) (omega arith), eq-eqb (length file) (shape_length (symbol_count file)) (omega (arith, count_back)))

  -- the header itself
  abbrev told : ShapeHeaderAnswer
  told = record { shape = record { refusal = 0; universe = u; length = length s }; place = shape_length 0 }

  told_is : told ≡ shape_header (shape_bytes u s)
  unfolding shape_header shape_bytes
  told_is = sym (rw (is_file, count_back))

  told_symbols : symbols_of (shape_bytes u s) told ≡ s
  unfolding shape_bytes
  told_symbols = take-length s

  -- THEOREM: a written file is accepted, and gives the universe and the symbols
  module _ (accepted : symbols_refusal u s ≡ 0) where
    pub written_accepted : shape_refusal (shape_bytes u s) ≡ 0
    written_accepted =
        sym (left_last (left_next (shape_checks_lem (shape_bytes u s) told_is) refl refl) (sym (ap (symbols_refusal u) told_symbols ∙ accepted)))

    pub written_read : (out : List ℕ) → length s ≤ length out → read_answer (shape_bytes u s) out ≡ record { refusal = 0; universe = u; length = length s }
    written_read out h = sym (read_all (shape_bytes u s) out (sym written_accepted) told_is h)

    pub written_copied : (out : List ℕ) → length s ≤ length out → read_buffer (shape_bytes u s) out ≡ s ++ drop (length s) out
    written_copied out h =
        let file = shape_bytes u s in
        let r = ap (λ (x : ShapeAnswer). x.refusal) (written_read out h) in
        ap (λ (v : List ℕ). overwritten (read_answer file out).refusal v out) (ap (symbols_of file) (sym told_is) ∙ told_symbols)
        ∙ sym (written s out r refl)

-- what an accepted file says of its own bytes, each of which is below 256
module _ (bytes : List ℕ) (small : (i : ℕ) → get_or bytes i 0 < 256) (accepted : shape_refusal bytes ≡ 0) where
  said : is_shape bytes ≡ true
  unfolding shape_header
  said = by (is_shape bytes) refl
    where
      by : (b : Bool) → is_shape bytes ≡ b → is_shape bytes ≡ true
      by true e = e
      by false e = absurd (omega (arith, left_accepts (shape_checks_lem bytes {h = no_shape_header} (sym (rw e))) accepted))

  header_said : shape_header bytes ≡ shape_header_of bytes
  unfolding shape_header
  header_said = rw said

  -- the universe and the symbols that reading gives
  abbrev pub read_universe : Universe
  read_universe = (shape_header bytes).shape.universe

  abbrev pub read_symbols : List ℕ
  read_symbols = symbols_of bytes (shape_header bytes)

  -- it is of one of the two versions
  pub read_version : (version_of bytes ≡ 1) ⊎ (version_of bytes ≡ shape_version)
  read_version = by (ℕ_discrete (version_of bytes) 1)
    where
      by : Dec (version_of bytes ≡ 1) → (version_of bytes ≡ 1) ⊎ (version_of bytes ≡ shape_version)
      by (yes e) = inl e
      by (no n) = inr (eqb-true _ _ (later_read (version_of bytes) n ∙ (is_shape_lem bytes said).version))

  rest_long : length (drop (shape_header_length (version_of bytes)) bytes) ≡ symbol_count bytes
  rest_long = length-drop (shape_header_length (version_of bytes)) bytes ∙ omega (arith, (is_shape_lem bytes said).whole)

  symbols_said : read_symbols ≡ drop (shape_header_length (version_of bytes)) bytes
  symbols_said =
      rw header_said (take_all (symbol_count bytes) (drop (shape_header_length (version_of bytes)) bytes) (omega (arith, rest_long)))

  long : {v : ℕ} → version_of bytes ≡ v → shape_header_length v ≤ length bytes
  long e = rw (← e) (shape_long bytes refl said)

  symbols_long : length read_symbols ≡ symbol_count bytes
  symbols_long = ap length symbols_said ∙ rest_long

  -- THEOREM: writing what was read, into room enough, leaves the shape file of that universe and those symbols, which is of version 2
  module _ (out : List ℕ) (room : shape_length (length read_symbols) ≤ length out) where
    pub read_written : write_answer read_universe read_symbols out ≡ record { refusal = 0; length = shape_length (length read_symbols) }
    read_written =
        let z = left_accepts (left_others (shape_checks_lem bytes refl) accepted) accepted in
        let at = shape_header_length (version_of bytes) - 4 in
        sym (write_all _ _ out (sym z) (omega (arith, symbols_long, small at, small (at + 1), small (at + 2), small (at + 2 + 1))) room)

    pub read_left : write_buffer read_universe read_symbols out ≡ shape_bytes read_universe read_symbols ++ drop (shape_length (length read_symbols)) out
    read_left =
        sym (written (shape_bytes read_universe read_symbols) out (ap (λ (w : WrittenAnswer). w.refusal) read_written) (file_long read_universe read_symbols))

  -- THEOREM: of a file of version 2 that is the file itself
  module _ (second : version_of bytes ≡ shape_version) where
    abbrev own : Universe
    own = record { axes = get_or bytes 5 0; bits = get_or bytes 6 0; frame_bits = get_or bytes 7 0 }

    own_said : read_universe ≡ own
    own_said =
        ap (λ (h : ShapeHeaderAnswer). h.shape.universe) header_said ∙ sym (later_universe bytes refl refl refl (λ e. omega arith) refl)

    own_symbols : read_symbols ≡ drop (shape_length 0) bytes
    own_symbols = symbols_said ∙ ap (λ (v : ℕ). drop (shape_header_length v) bytes) second

    own_long : length (drop (shape_length 0) bytes) ≡ u32_at bytes 8
    own_long = ap length (sym own_symbols) ∙ symbols_long ∙ ap (λ (v : ℕ). u32_at bytes (shape_header_length v - 4)) second

    bytes_said : shape_header_bytes own (u32_at bytes 8) ≡ listed (shape_length 0) (λ i. get_or bytes i 0)
    unfolding listed
    bytes_said =
        let m = mark_at bytes (shape_header_length (version_of bytes)) shape_mark (is_shape_lem bytes said).header in
        let m0 = m 0 (omega arith) in
        let m1 = m 1 (omega arith) in
        let m2 = m 2 (omega arith) in
        let m3 : get_or bytes 3 0 ≡ 2 = omega (arith, small 3, second) in
        let m4 : get_or bytes 4 0 ≡ 0 = omega (arith, small 3, second) in
        let a = first_byte _ _ _ _ (small 8) (small 9) (small 10) (small 11) in
        let b = second_byte _ _ _ _ (small 8) (small 9) (small 10) (small 11) in
        let c = third_byte _ _ _ _ (small 8) (small 9) (small 10) (small 11) in
        let d = fourth_byte _ _ _ _ (small 8) (small 9) (small 10) (small 11) in
        cc

    pub same_bytes : shape_bytes read_universe read_symbols ≡ bytes
    unfolding shape_bytes
    same_bytes =
        let rest = drop (shape_length 0) bytes in
        ap (λ (u : Universe). shape_bytes u read_symbols) own_said
        ∙ ap (shape_bytes own) own_symbols
        ∙ ap (λ (n : ℕ). shape_header_bytes own n ++ rest) own_long
        ∙ ap (λ (l : List ℕ). l ++ rest) bytes_said
        ∙ listed_own (shape_length 0) (λ i. get_or bytes i 0) bytes 0 (λ i. refl) (long second)

    same_long : shape_length (length read_symbols) ≡ length bytes
    same_long = file_long read_universe read_symbols ∙ ap length same_bytes

    module _ (out : List ℕ) (room : length bytes ≤ length out) where
      pub same_written : write_answer read_universe read_symbols out ≡ record { refusal = 0; length = length bytes }
      same_written = read_written out (omega (arith, same_long)) ∙ ap (λ (n : ℕ). record { refusal = 0; length = n }) same_long

      pub same_left : write_buffer read_universe read_symbols out ≡ bytes ++ drop (length bytes) out
      same_left = read_left out (omega (arith, same_long)) ∙ rw (same_long, same_bytes)

  -- THEOREM: of a file of version 1 it is the file of the universe whose axes all have its bits (rule 1.10), and of the same symbols
  module _ (first : version_of bytes ≡ 1) where
    pub first_bytes : shape_bytes read_universe read_symbols ≡ shape_bytes (equal_bits (get_or bytes 5 0) (get_or bytes 6 0)) (drop 11 bytes)
    first_bytes =
        ap (λ (u : Universe). shape_bytes u read_symbols)
        (ap (λ (h : ShapeHeaderAnswer). h.shape.universe) header_said ∙ sym (first_universe bytes refl refl refl first refl))
        ∙ ap (shape_bytes (equal_bits (get_or bytes 5 0) (get_or bytes 6 0)))
        (symbols_said ∙ ap (λ (v : ℕ). drop (shape_header_length v) bytes) first)
