-- Laws of `pull_back`: what is still to be written of the places still to come, with the ends that are left, is what was asked.
use mathlib.Core.Path.{◌≡◌, refl, sym, ap, ap₂, ◌∙◌}
use mathlib.Core.Bool.{Bool, true, false, cond}
use mathlib.Core.List.{List, [], ◌∷◌}
use Prim.Native.Nat.{ℕ, suc, ◌+◌, ◌≤◌, ◌<◌}
use native.Mathlib.Omega.{arith}
use lib.ListN.{length, get_or, drop, set, drop_of_length-le}
use lib.Seq.{sets}
use borrow.Author.Tests.{eq-eqb, ne_eqb}
use Rattle.bintree.specs.Shape.{open_symbol}
use Rattle.sweep.specs.Places.{is_symbol, pulled}
use Rattle.sweep.proofs.Slots.{next_place, Writing, writing_begins, writing_next, sets_all}

pulled_length : (s ps ends : List ℕ) → length (pulled s ps ends) ≡ length ps
unfolding pulled
pulled_length s [] ends = refl
pulled_length s (p ∷ ps) [] = ap suc (pulled_length s ps [])
pulled_length s (p ∷ ps) (e ∷ ends) = go (is_symbol s open_symbol p) (pulled_length s ps ends) (pulled_length s ps (e ∷ ends))
  where
    go : (t : Bool) → length (pulled s ps ends) ≡ length ps → length (pulled s ps (e ∷ ends)) ≡ length ps →
        length (cond t (e ∷ pulled s ps ends) (suc p ∷ pulled s ps (e ∷ ends))) ≡ suc (length ps)
    go true f g = ap suc f
    go false f g = ap suc g

pub record Pulling (s ends before now : List ℕ) (next i : ℕ) : Type 0 where
  pub still : Writing before now i
  pub room : length before ≤ length ends
  pub most : next ≤ i
  pub tells : sets now i (pulled s (drop i before) (drop next ends)) ≡ pulled s before ends

pub pulling_first : (s ends before : List ℕ) → length before ≤ length ends → Pulling s ends before before 0 0
pulling_first s ends before h = record {
  still = record { long = refl; same = λ k l. refl };
  room = h;
  most = omega arith;
  tells = sets_all (pulled s before ends) before (pulled_length s before ends);
}

module _ {s ends before now : List ℕ} {next i : ℕ} (g : Pulling s ends before now next i) where
  pub pulling_written : length before ≤ i → now ≡ pulled s before ends
  unfolding pulled
  pulling_written h = sym (ap (λ l. sets now i (pulled s l (drop next ends))) (drop_of_length-le before h)) ∙ g.tells

  module _ (h : i < length before) where
    pub pulling_end : next < length ends
    pulling_end = omega (arith, g.most, g.room)

    abbrev place : ℕ
    place = get_or now i 0

    abbrev end : ℕ
    end = get_or ends next 0

    rest : List ℕ
    rest = drop (i + 1) before

    begins : drop next ends ≡ end ∷ drop (next + 1) ends
    begins = next_place ends next pulling_end

    both : pulled s (drop i before) (drop next ends)
        ≡ cond (is_symbol s open_symbol place) (end ∷ pulled s rest (drop (next + 1) ends)) (suc place ∷ pulled s rest (end ∷ drop (next + 1) ends))
    unfolding pulled rest
    both = ap₂ (pulled s) (writing_begins g.still h) begins

    pulled_open : get_or s place 0 ≡ open_symbol → pulled s (drop i before) (drop next ends) ≡ end ∷ pulled s rest (drop (next + 1) ends)
    pulled_open e =
        both
        ∙ ap (λ t. cond t (end ∷ pulled s rest (drop (next + 1) ends)) (suc place ∷ pulled s rest (end ∷ drop (next + 1) ends)))
        (eq-eqb (get_or s place 0) open_symbol e)

    pulled_leaf : (get_or s place 0 ≡ open_symbol → ⊥) → pulled s (drop i before) (drop next ends) ≡ (place + 1) ∷ pulled s rest (drop next ends)
    pulled_leaf e =
        let q : suc place ≡ place + 1 = omega arith in
        both
        ∙ ap (λ t. cond t (end ∷ pulled s rest (drop (next + 1) ends)) (suc place ∷ pulled s rest (end ∷ drop (next + 1) ends)))
        (ne_eqb (get_or s place 0) open_symbol e)
        ∙ ap₂ (λ m l. m ∷ pulled s rest l) q (sym begins)

    -- a place that is written, by what is still to be written behind it
    next_pulling : (x next' : ℕ) → next' ≤ i + 1 → pulled s (drop i before) (drop next ends) ≡ x ∷ pulled s rest (drop next' ends) →
        Pulling s ends before (set now i x) next' (i + 1)
    unfolding rest
    next_pulling x next' m e =
        let q : i + 1 ≡ suc i = omega arith in
        record {
          still = writing_next g.still x;
          room = g.room;
          most = m;
          tells = ap (λ p. sets (set now i x) p (pulled s rest (drop next' ends))) q ∙ sym (ap (sets now i) e) ∙ g.tells;
        }

    pub pulling_open : get_or s (get_or now i 0) 0 ≡ open_symbol → Pulling s ends before (set now i (get_or ends next 0)) (next + 1) (i + 1)
    pulling_open e = next_pulling end (next + 1) (omega (arith, g.most)) (pulled_open e)

    pub pulling_leaf : (get_or s (get_or now i 0) 0 ≡ open_symbol → ⊥) → Pulling s ends before (set now i (get_or now i 0 + 1)) next (i + 1)
    pulling_leaf e = next_pulling (place + 1) next (omega (arith, g.most)) (pulled_leaf e)
