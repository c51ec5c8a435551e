-- Laws of `push_lows` and `push_past`: what is still to be written of the places still to come, from what has been written on, is what was asked.
use mathlib.Core.Path.{◌≡◌, refl, sym, ap, ◌∙◌}
use mathlib.Core.Bool.{cond}
use mathlib.Core.List.{List, ◌∷◌}
use Prim.Native.Nat.{ℕ, suc, ◌+◌, ◌≤◌, ◌<◌}
use native.Mathlib.Omega.{arith}
use lib.ListN.{length, get_or, drop, set, length-set, drop_of_length-le}
use lib.Seq.{sets}
use borrow.Author.Tests.{eq-eqb, ne_eqb}
use Rattle.bintree.specs.Shape.{open_symbol}
use Rattle.sweep.specs.Places.{past_at, past_all, low_places}
use Rattle.sweep.proofs.Trees.{past_length}
use Rattle.sweep.proofs.Slots.{next_place, Writing, writing_begins, writing_next, sets_all}

-- ---- `push_lows`: `next` is written next

pub record Pushing (s places before lows : List ℕ) (next i : ℕ) : Type 0 where
  pub room : length places ≤ length before
  pub long : length lows ≡ length before
  pub most : next ≤ i
  pub tells : sets lows next (low_places s (drop i places)) ≡ sets before 0 (low_places s places)
  pub counts : next + length (low_places s (drop i places)) ≡ length (low_places s places)

module _ {s places before lows : List ℕ} {next i : ℕ} (g : Pushing s places before lows next i) where
  pub pushing_end : length places ≤ i → next ≡ length (low_places s places)
  unfolding low_places
  pushing_end h =
      let e : length (low_places s (drop i places)) ≡ 0 = ap (λ l. length (low_places s l)) (drop_of_length-le places h) in
      omega (arith, g.counts)

  pub pushing_written : length places ≤ i → lows ≡ sets before 0 (low_places s places)
  unfolding low_places
  pushing_written h = sym (ap (λ l. sets lows next (low_places s l)) (drop_of_length-le places h)) ∙ g.tells

  module _ (h : i < length places) where
    abbrev place : ℕ
    place = get_or places i 0

    rest : List ℕ
    rest = drop (i + 1) places

    lows_open : get_or s place 0 ≡ open_symbol → low_places s (drop i places) ≡ (place + 1) ∷ low_places s rest
    unfolding low_places rest
    lows_open e =
        let q : suc place ≡ place + 1 = omega arith in
        ap (low_places s) (next_place places i h)
        ∙ ap (λ t. cond t (suc place ∷ low_places s rest) (low_places s rest)) (eq-eqb (get_or s place 0) open_symbol e)
        ∙ ap (λ p. p ∷ low_places s rest) q

    lows_leaf : (get_or s place 0 ≡ open_symbol → ⊥) → low_places s (drop i places) ≡ low_places s rest
    unfolding low_places rest
    lows_leaf e =
        ap (low_places s) (next_place places i h)
        ∙ ap (λ t. cond t (suc place ∷ low_places s rest) (low_places s rest)) (ne_eqb (get_or s place 0) open_symbol e)

    pub pushing_open : get_or s (get_or places i 0) 0 ≡ open_symbol → Pushing s places before (set lows next (get_or places i 0 + 1)) (next + 1) (i + 1)
    unfolding rest
    pushing_open e =
        let q : next + 1 ≡ suc next = omega arith in
        record {
          room = g.room;
          long = length-set lows next (place + 1) ∙ g.long;
          most = omega (arith, g.most);
          tells = ap (λ m. sets (set lows next (place + 1)) m (low_places s rest)) q ∙ sym (ap (sets lows next) (lows_open e)) ∙ g.tells;
          counts = omega (arith, g.counts, ap length (lows_open e));
        }

    pub pushing_leaf : (get_or s (get_or places i 0) 0 ≡ open_symbol → ⊥) → Pushing s places before lows next (i + 1)
    unfolding rest
    pushing_leaf e = record {
      room = g.room;
      long = g.long;
      most = omega (arith, g.most);
      tells = sym (ap (sets lows next) (lows_leaf e)) ∙ g.tells;
      counts = omega (arith, g.counts, ap length (lows_leaf e));
    }

-- ---- `push_past`

pub record Ending (s before now : List ℕ) (i : ℕ) : Type 0 where
  pub still : Writing before now i
  pub tells : sets now i (past_all s (drop i before)) ≡ past_all s before

pub ending_first : (s before : List ℕ) → Ending s before before 0
ending_first s before =
    record { still = record { long = refl; same = λ k l. refl }; tells = sets_all (past_all s before) before (past_length s before) }

module _ {s before now : List ℕ} {i : ℕ} (g : Ending s before now i) where
  pub ending_next : i < length before → (x : ℕ) → x ≡ past_at s (get_or now i 0) → Ending s before (set now i x) (i + 1)
  ending_next h x e =
      let q : i + 1 ≡ suc i = omega arith in
      let rest = past_all s (drop (i + 1) before) in
      let first : past_all s (drop i before) ≡ x ∷ rest =
      ap (past_all s) (writing_begins g.still h) ∙ ap (λ p. p ∷ rest) (sym e) in
      record {
        still = writing_next g.still x;
        tells = ap (λ m. sets (set now i x) m rest) q ∙ sym (ap (sets now i) first) ∙ g.tells;
      }

  pub ending_written : length before ≤ i → now ≡ past_all s before
  ending_written h = sym (ap (λ l. sets now i (past_all s l)) (drop_of_length-le before h)) ∙ g.tells
