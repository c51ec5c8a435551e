-- Shape files: each test of `is_shape` alone decides where those before it hold; what a header tells of is there; and the answers and lent room of
-- writing and of reading.
use Prim.Native.Nat.{ℕ, ◌+◌, ◌-◌, ◌≤◌, ◌<◌}
use native.Mathlib.Omega.{arith}
use mathlib.Core.Path.{◌≡◌, refl, sym, ap, ◌∙◌}
use mathlib.Core.Bool.{Bool, true, false, cond, ◌&&◌}
use mathlib.Core.List.{List, ◌++◌}
use lib.Dec.{eqb}
use lib.ListN.{length, drop, length-append, length-drop}
use lib.Seq.{sets, length-take-le}
use borrow.Author.Tests.{le-leb, lt-leb, ne_eqb, eqb-true}
use Rattle.lemmas.proofs.Sums.{and_left, and_right}
use Rattle.lemmas.proofs.Stores.{sets_first, sets_append}
use Rattle.universe.specs.declared.Universe.{Universe}
use Rattle.universe.specs.Refusals.{first_refusal, no_room}
use Rattle.universe.specs.Lent.{room_refusal}
use Rattle.universe.specs.Universe.{universe_refusal}
use Rattle.universe.proofs.Universes.{accepted, most_bits_lem}
use Rattle.universe.specs.declared.refusal.Refusal.{Refusal}
use Rattle.universe.specs.Told.{number_of}
use Rattle.universe.proofs.Telling.{number-pos, number-not_zero}
use Rattle.universe.proofs.Lent.{untouched, written, room_enough, room_short}
use Rattle.bintree.specs.Told.{WrittenAnswer}
use Rattle.bintree.specs.Answers.{unless_refused, refused_writing, short_writing, done_writing}
use Rattle.bintree.proofs.Answers.{is_refused, is_done}
use Rattle.files.specs.Told.{ShapeAnswer, ShapeHeaderAnswer, refused_shape, short_shape, refused_shape_header, no_shape_header}
use Rattle.files.specs.Numbers.{version_of, has_header}
use Rattle.files.specs.Shapes.{shape_mark, shape_version, shape_header_length, symbol_count, is_version, shape_length, most_symbols, symbols_checks}
use Rattle.files.specs.Shapes.{symbols_refusal, shape_header_bytes, shape_bytes}
use Rattle.files.specs.Shapes.{file_refusal, write_answer, write_buffer, is_shape, shape_header_of, shape_header}
use Rattle.files.specs.Shapes.{symbols_of, shape_checks, shape_refusal, read_answer, read_buffer}
use Rattle.files.proofs.Numbers.{no_header, header_there}
use Rattle.files.proofs.Refusals.{Left, left_refused, left_next, left_last, left_accepts}

-- ---- the versions, and the length of the header

-- the versions that are read
pub later_read : (v : ℕ) → (v ≡ 1 → ⊥) → eqb v shape_version ≡ is_version v
later_read v n = rw (ne_eqb v 1 n)

-- either header has so many bytes at the least, and at the most
pub least : (v : ℕ) → 11 ≤ shape_header_length v
least v = go (eqb v 1)
  where
    go : (b : Bool) → 11 ≤ cond b 11 12
    go true = omega arith
    go false = omega arith

pub most : (v : ℕ) → shape_header_length v ≤ 12
most v = go (eqb v 1)
  where
    go : (b : Bool) → cond b 11 12 ≤ 12
    go true = omega arith
    go false = omega arith

-- what the tests say of a shape file
pub record IsShape (bytes : List ℕ) : Type 0 where
  pub header : has_header bytes (shape_header_length (version_of bytes)) shape_mark ≡ true
  pub version : is_version (version_of bytes) ≡ true
  pub whole : length bytes ≡ shape_header_length (version_of bytes) + symbol_count bytes

pub is_shape_lem : (bytes : List ℕ) → is_shape bytes ≡ true → IsShape bytes
unfolding is_shape
is_shape_lem bytes e =
    let a = has_header bytes (shape_header_length (version_of bytes)) shape_mark in
    let b = is_version (version_of bytes) in
    let c = eqb (length bytes) (shape_header_length (version_of bytes) + symbol_count bytes) in
    let both = and_left (a && b) c e in
    record { header = and_left a b both; version = and_right a b both; whole = eqb-true _ _ (and_right (a && b) c e) }

-- ---- the header

module _ (bytes : List ℕ) {f : Bool} (e : f ≡ is_shape bytes) where
  pub shape_long : f ≡ true → shape_header_length (version_of bytes) ≤ length bytes
  shape_long t = omega (arith, (is_shape_lem bytes (sym e ∙ t)).whole)

pub ruleset test_laws = (least, most, no_header, header_there)

-- ---- the symbols that a header tells of are there, and the answer is up to the checks

there : (bytes : List ℕ) (b : Bool) → is_shape bytes ≡ b →
    (cond b (shape_header_of bytes) no_shape_header).place + (cond b (shape_header_of bytes) no_shape_header).shape.length ≤ length bytes
there bytes true is = omega (arith, (is_shape_lem bytes is).whole)
there bytes false is = omega arith

module _ (bytes : List ℕ) {h : ShapeHeaderAnswer} (e : h ≡ shape_header bytes) where
  pub symbols_there : h.place + h.shape.length ≤ length bytes
  unfolding shape_header
  symbols_there = rw e (there bytes (is_shape bytes) refl)

  pub shape_checks_lem : Left (shape_refusal bytes) (shape_checks bytes h)
  unfolding shape_refusal
  shape_checks_lem = record { same = ap (λ (g : ShapeHeaderAnswer). first_refusal (shape_checks bytes g)) (sym e) }

-- ---- the header of an accepted universe is made of bytes

module _ (u : Universe) (z : universe_refusal u ≡ 0) where
  pub axes_small : u.axes < 256
  axes_small = omega (arith, (accepted u z).few_axes)

  pub bits_small : u.bits < 256
  bits_small = omega (arith, (accepted u z).few_bits, most_bits_lem u.axes)

  pub frame_bits_small : u.frame_bits < 256
  frame_bits_small = omega (arith, (accepted u z).few_frame_bits)

pub ruleset header_laws = (axes_small, bits_small, frame_bits_small)

-- ---- writing: what it answers, and what the room holds afterwards

symbols_checks_lem : (u : Universe) (s : List ℕ) → Left (symbols_refusal u s) (symbols_checks u s)
unfolding symbols_refusal
symbols_checks_lem u s = record { same = refl }

module _ (u : Universe) (s out : List ℕ) where
  write_keeps : (w : WrittenAnswer) → w ≡ write_answer u s out → (w.refusal ≡ 0 → ⊥) → out ≡ write_buffer u s out
  write_keeps w e n = untouched (shape_bytes u s) out (λ z. n (ap (λ (w : WrittenAnswer). w.refusal) e ∙ z))

  module _ (r : Refusal) (number : number_of r ≡ symbols_refusal u s) where
    pub write_refused : refused_writing (number_of r) ≡ write_answer u s out
    unfolding write_answer
    write_refused = rw (← number) (is_refused refused_writing _ (number_of r) (number-not_zero r))

  pub write_refused_kept : 0 < symbols_refusal u s → out ≡ write_buffer u s out
  unfolding write_answer
  write_refused_kept refuses =
      let n : symbols_refusal u s ≡ 0 → ⊥ = λ z. absurd (omega arith) in write_keeps _ (is_refused refused_writing _ (symbols_refusal u s) n) n

  module _ (accepts : 0 ≡ symbols_refusal u s) where
    pub write_accepted : universe_refusal u ≡ 0
    write_accepted = left_accepts (symbols_checks_lem u s) (sym accepts)

    -- number 6, or all is written
    written_by_room : (six : ℕ) → file_refusal (length out) (length s) ≡ six →
        unless_refused six (λ k. short_writing (shape_length (length s))) (done_writing (shape_length (length s))) ≡ write_answer u s out
    unfolding write_answer
    written_by_room six e = rw (← accepts, ← e) (is_done refused_writing _ 0 refl)

    module _ (h : most_symbols < length s) where
      pub write_many : short_writing (shape_length (length s)) ≡ write_answer u s out
      unfolding file_refusal
      write_many = written_by_room no_room (rw (lt-leb (length s) most_symbols h))

      pub write_many_kept : out ≡ write_buffer u s out
      write_many_kept = write_keeps _ write_many (λ k. omega arith)

    module _ (few : length s ≤ most_symbols) where
      module _ (h : length out < shape_length (length s)) where
        pub write_short : short_writing (shape_length (length s)) ≡ write_answer u s out
        unfolding file_refusal
        write_short =
            written_by_room no_room (rw (le-leb (length s) most_symbols few) (room_short (length out) (shape_length (length s)) h))

        pub write_short_kept : out ≡ write_buffer u s out
        write_short_kept = write_keeps _ write_short (λ k. omega arith)

      module _ (h : shape_length (length s) ≤ length out) where
        pub write_all : done_writing (shape_length (length s)) ≡ write_answer u s out
        unfolding file_refusal
        write_all =
            written_by_room 0 (rw (le-leb (length s) most_symbols few) (room_enough (length out) (shape_length (length s)) h))

        -- the header stored from the first place on, and the symbols behind it
        pub write_leaves : {header front now : List ℕ} → header ≡ shape_header_bytes u (length s) → front ≡ sets out 0 header →
            now ≡ sets front 12 s → now ≡ write_buffer u s out
        unfolding shape_bytes
        write_leaves k f g =
            let bytes = shape_header_bytes u (length s) in
            g
            ∙ ap (λ (l : List ℕ). sets l 12 s) (f ∙ ap (sets out 0) k)
            ∙ sets_append bytes s out 0
            ∙ sets_first (bytes ++ s) out (omega (arith, length-append bytes s))
            ∙ written (bytes ++ s) out (sym (ap (λ (w : WrittenAnswer). w.refusal) write_all)) refl

pub ruleset write_laws = (
  number-pos,
  write_refused,
  write_refused_kept,
  write_accepted,
  write_many,
  write_many_kept,
  write_short,
  write_short_kept,
  write_all,
  write_leaves,
)

-- ---- reading: what it answers, and what the room holds afterwards

-- a file with no header is refused by that
pub header_refused : (bytes : List ℕ) (r : Refusal) → refused_shape_header (number_of r) ≡ shape_header bytes → number_of r ≡ shape_refusal bytes
header_refused bytes r e = left_refused (shape_checks_lem bytes e) refl (number-not_zero r)

-- and another by its symbols
module _ (bytes : List ℕ) {h : ShapeHeaderAnswer} (e : h ≡ shape_header bytes) (file : h.shape.refusal ≡ 0) where
  pub refused_by_symbols : {x : ℕ} → x ≡ symbols_refusal h.shape.universe (symbols_of bytes h) → x ≡ shape_refusal bytes
  refused_by_symbols g = left_last (left_next (shape_checks_lem bytes e) refl file) g

module _ (bytes out : List ℕ) where
  read_keeps : (a : ShapeAnswer) → a ≡ read_answer bytes out → (a.refusal ≡ 0 → ⊥) → out ≡ read_buffer bytes out
  read_keeps a e n = untouched (symbols_of bytes (shape_header bytes)) out (λ z. n (ap (λ (r : ShapeAnswer). r.refusal) e ∙ z))

  module _ (r : Refusal) (number : number_of r ≡ shape_refusal bytes) where
    pub read_refused : refused_shape (number_of r) ≡ read_answer bytes out
    unfolding read_answer
    read_refused = rw (← number) (is_refused refused_shape _ (number_of r) (number-not_zero r))

  pub read_refused_kept : 0 < shape_refusal bytes → out ≡ read_buffer bytes out
  unfolding read_answer
  read_refused_kept refuses =
      let n : shape_refusal bytes ≡ 0 → ⊥ = λ z. absurd (omega arith) in read_keeps _ (is_refused refused_shape _ (shape_refusal bytes) n) n

  module _ {h : ShapeHeaderAnswer} (accepts : 0 ≡ shape_refusal bytes) (e : h ≡ shape_header bytes) where
    read_by_room : (six : ℕ) → room_refusal (length out) h.shape.length ≡ six →
        unless_refused six (λ k. short_shape h.shape.length) h.shape ≡ read_answer bytes out
    unfolding read_answer
    read_by_room six f = rw (← accepts, ← e, f) (is_done refused_shape _ 0 refl)

    module _ (l : length out < h.shape.length) where
      pub read_short : short_shape h.shape.length ≡ read_answer bytes out
      read_short = read_by_room no_room (room_short (length out) h.shape.length l)

      pub read_short_kept : out ≡ read_buffer bytes out
      read_short_kept = read_keeps _ read_short (λ k. omega arith)

    module _ (l : h.shape.length ≤ length out) where
      pub read_all : h.shape ≡ read_answer bytes out
      read_all = read_by_room 0 (room_enough (length out) h.shape.length l)

      pub read_leaves : {now : List ℕ} → now ≡ sets out 0 (symbols_of bytes h) → now ≡ read_buffer bytes out
      read_leaves q =
          let r = left_accepts (shape_checks_lem bytes e) (sym accepts) in
          let room : h.shape.length ≤ length (drop h.place bytes) = omega (arith, symbols_there bytes e, length-drop h.place bytes) in
          q
          ∙ sets_first (symbols_of bytes h) out (omega (arith, length-take-le h.shape.length (drop h.place bytes) room))
          ∙ ap (λ (w : List ℕ). w ++ drop (length w) out) (ap (symbols_of bytes) e)
          ∙ written (symbols_of bytes (shape_header bytes)) out (sym (ap (λ (v : ShapeAnswer). v.refusal) read_all) ∙ r) refl

pub ruleset read_laws = (
  number-pos,
  symbols_there,
  header_refused,
  refused_by_symbols,
  read_refused,
  read_refused_kept,
  read_short,
  read_short_kept,
  read_all,
  read_leaves,
)
