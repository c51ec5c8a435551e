-- A pruned conversion is refused by the checks up to the trees, lacks work room, or ends as the first conversion does: where it does not lack work room, both
-- have the same number, the same length and the same symbols. Whether room is lent is asked only where no check refuses.
use Prim.Native.Nat.{ℕ, ◌≤◌, ◌<◌}
use mathlib.Core.Path.{◌≡◌, ap, ◌∙◌}
use mathlib.Core.Bool.{false}
use mathlib.Core.List.{List}
use native.Mathlib.Decide.{ℕ_discrete, dec_le}
use native.Mathlib.Omega.{arith}
use borrow.Author.Tests.{ne_eqb}
use lib.IntN.{ℤ}
use lib.ListN.{length}
use Rattle.universe.proofs.Lent.{room_enough, room_short, untouched}
use Rattle.bintree.specs.Told.{WrittenAnswer}
use Rattle.bintree.specs.Answers.{written_answer, written_buffer}
use Rattle.pruned.specs.Told.{ConversionAnswer}
use Rattle.pruned.specs.Answers.{nodes_lent, refused_conversion, short_of_work, written_conversion, written_room, conversion_answer, conversion_room}

-- ---- any conversion: these checks, this need, these symbols, these nodes
module _ (before : ℕ) (work : List ℤ) (needed : ℕ) (out symbols : List ℕ) (looked : ℕ) where
  abbrev answer : ConversionAnswer
  answer = conversion_answer before work needed out symbols looked

  abbrev left : List ℕ
  left = conversion_room before work needed out symbols

  pub is_refused : (before ≡ 0 → ⊥) → answer ≡ refused_conversion before
  unfolding conversion_answer
  is_refused h = rw (ne_eqb before 0 h)

  left_refused : (before ≡ 0 → ⊥) → left ≡ out
  unfolding conversion_room
  left_refused h = rw (ne_eqb before 0 h, ne_eqb before 0 h)

  module _ (z : before ≡ 0) where
    pub is_short : nodes_lent work < needed → answer ≡ short_of_work needed
    unfolding conversion_answer
    is_short h = rw (z, room_short (nodes_lent work) needed h)

    pub is_written : needed ≤ nodes_lent work → answer ≡ written_conversion out symbols looked
    unfolding conversion_answer
    is_written h = rw (z, room_enough (nodes_lent work) needed h)

    left_written : needed ≤ nodes_lent work → left ≡ written_room out symbols
    unfolding conversion_room
    left_written h = rw (z, room_enough (nodes_lent work) needed h)

  -- ---- a conversion that does not lack work room, beside the first: both end in too little room, or are done
  abbrev first : WrittenAnswer
  first = written_answer before out symbols

  abbrev first_left : List ℕ
  first_left = written_buffer before out symbols

  pub record Same : Type 0 where
    pub number : answer.refusal ≡ first.refusal
    pub long : answer.length ≡ first.length
    pub room : left ≡ first_left
    pub lack : answer.short_of_work ≡ false

  pub same : (before ≡ 0 → needed ≤ nodes_lent work) → Same
  unfolding written_answer written_buffer written_conversion written_room
  same h = by (ℕ_discrete before 0) (dec_le (length symbols) (length out))
    where
      by : Dec (before ≡ 0) → Dec (length symbols ≤ length out) → Same
      by (no n) k =
          let e = is_refused n in
          let r = ne_eqb before 0 n in
          record {
            number = ap (λ (x : ConversionAnswer). x.refusal) e ∙ rw r;
            long = ap (λ (x : ConversionAnswer). x.length) e ∙ rw r;
            room = left_refused n ∙ rw r (untouched symbols out n);
            lack = ap (λ (x : ConversionAnswer). x.short_of_work) e;
          }
      by (yes z) (yes k) =
          let e = is_written z (h z) in
          let m = room_enough (length out) (length symbols) k in
          record {
            number = ap (λ (x : ConversionAnswer). x.refusal) e ∙ rw (z, m);
            long = ap (λ (x : ConversionAnswer). x.length) e ∙ rw (z, m);
            room = left_written z (h z) ∙ rw (z, m);
            lack = ap (λ (x : ConversionAnswer). x.short_of_work) e ∙ rw m;
          }
      by (yes z) (no k) =
          let e = is_written z (h z) in
          let m = room_short (length out) (length symbols) (omega arith) in
          record {
            number = ap (λ (x : ConversionAnswer). x.refusal) e ∙ rw (z, m);
            long = ap (λ (x : ConversionAnswer). x.length) e ∙ rw (z, m);
            room = left_written z (h z) ∙ rw (z, m);
            lack = ap (λ (x : ConversionAnswer). x.short_of_work) e ∙ rw m;
          }
