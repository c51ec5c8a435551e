-- Numbers that stand one after the other in bytes. A loop that stores them fills a list: `Filling` is its invariant.
use Prim.Native.Nat.{ℕ, suc, ◌+◌, ◌*◌, ◌/◌, ◌%◌, ◌^◌, ◌≤◌, ◌<◌}
use native.Mathlib.Omega.{arith}
use native.Mathlib.Numerals.{add-one}
use native.Mathlib.Nat.{div-div-eq-div-mul}
use mathlib.Core.Path.{◌≡◌, refl, sym, ap, ◌∙◌}
use mathlib.Core.Bool.{Bool, true, false}
use mathlib.Core.List.{List, ◌++◌, append_assoc}
use lib.Dec.{leb, eqb}
use lib.ListN.{length, get_or, take, drop, set, length-set}
use lib.Seq.{drop-cons, drop-length, set_at, take_at}
use lib.IntN.{ℤ}
use lib.Signed.{mag}
use mir.Syntax.{w16, w64}
use mir.Val.{to_z, of_z}
use Rattle.std.proofs.Common.{nat_eq, append-nil}
use Rattle.std.specs.List.{starts_with}
use Rattle.std.proofs.lemmas.Slice.Eq.{starts_is}
use Rattle.std.proofs.lemmas.Bool.{false≢true}
use Rattle.std.proofs.lemmas.Bool.Decides.{Decides-eqb}
use Rattle.std.proofs.lemmas.List.{get_or_append_left}
use Rattle.std.proofs.lemmas.List.Prefix.{front_from_reads}
use borrow.Author.Rules.{rules}
use borrow.Author.Tests.{lt-ltb, le-leb, lt-leb, leb-true, eq-eqb, ne_eqb, eqb-true}
use Rattle.lemmas.specs.Sums.{every}
use Rattle.lemmas.specs.Grid.{listed}
use Rattle.lemmas.proofs.Sums.{and_left, and_right, every_all, all_every}
use Rattle.lemmas.proofs.Grid.{listed_length, listed_next}
use Rattle.lemmas.proofs.Machine.{read_call}
use Rattle.universe.specs.declared.Universe.{Universe}
use Rattle.universe.specs.Universe.{equal_bits}
use Rattle.files.specs.Numbers.{from_bits, version_of, universe_said, has_header}

-- ---- 64 bits as a whole number, and 16: what casts to a signed number gives, as the machine stores it

pub long_read : (n : ℕ) {z : ℤ} → n < 2 ^ 64 → mag z < 2 ^ 63 → z ≡ to_z w64 n → to_z w64 (of_z w64 z) ≡ from_bits 64 n
unfolding from_bits
long_read n h l e = read_call l (e ∙ rw (lt-ltb n (2 ^ 64) h))

pub short_read : (n : ℕ) {z : ℤ} → n < 2 ^ 16 → mag z < 2 ^ 63 → z ≡ to_z w16 n → to_z w64 (of_z w64 z) ≡ from_bits 16 n
unfolding from_bits
short_read n h l e = read_call l (e ∙ rw (lt-ltb n (2 ^ 16) h))

-- ---- the first i places of a list are filled with what a rule gives

pub record Filling {A : Type 0} (f : ℕ → A) (before : List A) (i : ℕ) (now : List A) : Type 0 where
  pub within : i ≤ length before
  pub same : now ≡ listed i f ++ drop i before
  pub kept : length now ≡ length before

pub filling_start : {A : Type 0} (f : ℕ → A) (before : List A) → Filling f before 0 before
unfolding listed
filling_start f before = record { within = omega arith; same = refl; kept = refl }

module _ {A : Type 0} {f : ℕ → A} {before : List A} {i : ℕ} {now : List A} (s : Filling f before i now) where
  module _ (l : i < length before) where
    stored : set now i (f i) ≡ listed (i + 1) f ++ drop (i + 1) before
    stored =
        rw (s.same, add-one, listed_next i f, drop-cons before i (f i) l)
        (rw (set_at (listed i f) (get_or before i (f i)) (drop (suc i) before) (f i) i (listed_length i f), append_assoc))

    pub filling_next : {x : A} → x ≡ f i → Filling f before (i + 1) (set now i x)
    filling_next e = record { within = omega arith; same = ap (set now i) e ∙ stored; kept = length-set now i _ ∙ s.kept }

  pub filling_end : length before ≤ i → now ≡ listed (length before) f
  filling_end h =
      let e : i ≡ length before = omega (arith, s.within) in
      s.same ∙ ap (λ (k : ℕ). listed k f ++ drop k before) e ∙ rw (drop-length before, append-nil)

  pub filling_kept : length now ≡ length before
  filling_kept = s.kept

pub ruleset filling_laws = (rules, filling_start, filling_next, filling_end, filling_kept)

-- what a list whose front was filled so holds there
module _ {A : Type 0} (n : ℕ) (f : ℕ → A) (rest : List A) {now : List A} (e : now ≡ listed n f ++ rest) where
  pub front_is : take n now ≡ listed n f
  front_is = rw e (take_at (listed n f) rest n (listed_length n f))

  pub front_length : n ≡ length (take n now)
  front_length = rw front_is (sym (listed_length n f))

-- ---- bytes that are as long as a header, and begin with its mark

-- what `starts_with` says of a mark
module _ (bytes mark : List ℕ) (few : length mark ≤ length bytes) where
  abbrev as_mark : ℕ → Bool
  as_mark i = eqb (get_or bytes i 0) (get_or mark i 0)

  starts_every : (r : Bool) → r ≡ starts_with nat_eq bytes mark → r ≡ every (length mark) as_mark
  starts_every true e =
      let front = (starts_is Decides-eqb bytes mark true e).0 refl in
      let alike : (i : ℕ) → i < length mark → as_mark i ≡ true =
      λ i l. eq-eqb (get_or bytes i 0) (get_or mark i 0) (ap (λ (s : List ℕ). get_or s i 0) front ∙ get_or_append_left mark _ 0 i l)
      in
      sym (all_every (length mark) as_mark alike)
  starts_every false e = go (every (length mark) as_mark) refl
    where
      go : (b : Bool) → every (length mark) as_mark ≡ b → false ≡ every (length mark) as_mark
      go false h = sym h
      go true h =
          let front = front_from_reads 0 bytes mark few (λ i l. eqb-true _ _ (every_all (length mark) as_mark h i l)) in
          absurd (false≢true ((starts_is Decides-eqb bytes mark false e).1 _ front))

module _ (bytes : List ℕ) (header : ℕ) (mark : List ℕ) where
  pub no_header : length bytes < header → has_header bytes header mark ≡ false
  unfolding has_header
  no_header h = rw (lt-leb header (length bytes) h)

  pub header_short : length bytes < header → leb header (length bytes) ≡ has_header bytes header mark
  unfolding has_header
  header_short h = rw (lt-leb header (length bytes) h)

  pub header_starts : {r : Bool} → length mark ≤ header → header ≤ length bytes → r ≡ starts_with nat_eq bytes mark → r ≡ has_header bytes header mark
  unfolding has_header
  header_starts {r} f h e = rw (le-leb header (length bytes) h) (starts_every bytes mark (omega arith) r e)

  -- bytes with a header are as long, and begin with its mark
  module _ (e : has_header bytes header mark ≡ true) where
    pub header_long : header ≤ length bytes
    unfolding has_header
    header_long = leb-true header (length bytes) (and_left (leb header (length bytes)) _ e)

    pub mark_at : (i : ℕ) → i < length mark → get_or bytes i 0 ≡ get_or mark i 0
    unfolding has_header
    mark_at i h = eqb-true _ _ (every_all (length mark) _ (and_right (leb header (length bytes)) _ e) i h)

  pub header_there : {f : Bool} → f ≡ has_header bytes header mark → f ≡ true → header ≤ length bytes
  header_there e t = header_long (sym e ∙ t)

pub ruleset header_laws = (rules, header_short, header_starts)

-- ---- the universe of a file, by its version

module _ (bytes : List ℕ) {v axes bits : ℕ} (e : v ≡ version_of bytes) (a : axes ≡ get_or bytes 5 0) (b : bits ≡ get_or bytes 6 0) where
  pub first_universe : {u : Universe} → v ≡ 1 → u ≡ equal_bits axes bits → u ≡ universe_said bytes
  first_universe t g = g ∙ rw (a, b, ← e, eq-eqb v 1 t)

  pub later_universe : {frame : ℕ} → (v ≡ 1 → ⊥) → frame ≡ get_or bytes 7 0 →
      record { axes = axes; bits = bits; frame_bits = frame } ≡ universe_said bytes
  later_universe n f = rw (a, b, f, ← e, ne_eqb v 1 n)

pub ruleset universe_laws = (rules, first_universe, later_universe)

-- ---- a number below 2^32 is what its four bytes make, and four bytes are those of what they make

pub u32_back : (n : ℕ) → n < 2 ^ 32 → n % 256 + 256 * (n / 256 % 256) + 65_536 * (n / 65_536 % 256 + 256 * (n / 16_777_216 % 256)) ≡ n
u32_back n h =
    let a : n / 256 / 256 ≡ n / 65_536 = div-div-eq-div-mul n 256 256 in
    let b : n / 65_536 / 256 ≡ n / 16_777_216 = div-div-eq-div-mul n 65_536 256 in
    let c : n / 16_777_216 % 256 ≡ n / 16_777_216 = omega arith in
    omega arith

module _ (a b c d : ℕ) (p : a < 256) (q : b < 256) (r : c < 256) (s : d < 256) where
  pub first_byte : (a + 256 * b + 65_536 * (c + 256 * d)) % 256 ≡ a
  first_byte = omega arith

  pub second_byte : (a + 256 * b + 65_536 * (c + 256 * d)) / 256 % 256 ≡ b
  second_byte = omega arith

  pub third_byte : (a + 256 * b + 65_536 * (c + 256 * d)) / 65_536 % 256 ≡ c
  third_byte = omega arith

  pub fourth_byte : (a + 256 * b + 65_536 * (c + 256 * d)) / 16_777_216 % 256 ≡ d
  fourth_byte = omega arith
