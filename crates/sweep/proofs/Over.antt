-- Laying one shape over another: its colours, its size and depth; and that it may be done in any order, as shapes, so that a list of trees needs no colours.
use mathlib.Core.Path.{◌≡◌, refl, sym, ap, ap₂, ◌∙◌}
use mathlib.Core.Bool.{Bool, true, false, cond}
use mathlib.Core.List.{List, [], ◌∷◌}
use mathlib.Core.Logic.{◌⊎◌, inl, inr}
use Prim.Native.Nat.{ℕ, zero, suc, ◌+◌, ◌≤◌}
use native.Mathlib.Omega.{arith}
use lib.Dec.{eqb}
use Rattle.bintree.specs.declared.Colour.{Colour}
use Rattle.bintree.specs.declared.Colour.TheVariants.{White, Black}
use Rattle.bintree.specs.Shape.{Shape, leaf, halved, size, depth}
use Rattle.bintree.specs.Parts.{part, colour_of}
use Rattle.sweep.specs.Sweeping.{either, over}

-- the colour at the end of a path
abbrev pub colour : Shape → List ℕ → Colour
colour s path = colour_of (part s path)

-- ---- colours

either_white : (c : Colour) → either c White ≡ c
either_white Black = refl
either_white White = refl

either_black : (c : Colour) → either c Black ≡ Black
either_black Black = refl
either_black White = refl

choice : {A B C : Type 0} (f : A → B → C) (t : Bool) (a b : A) (c d : B) → cond t (f a c) (f b d) ≡ f (cond t a b) (cond t c d)
choice f true a b c d = refl
choice f false a b c d = refl

pub of_choice : {A B : Type 0} (f : A → B) (t : Bool) (a b : A) → f (cond t a b) ≡ cond t (f a) (f b)
of_choice f true a b = refl
of_choice f false a b = refl

-- THEOREM: black where one of the two is
pub over_colour : (a b : Shape) (p : List ℕ) → colour (over a b) p ≡ either (colour a p) (colour b p)
unfolding over part
over_colour (leaf White) t p = refl
over_colour (leaf Black) t p = refl
over_colour (halved a b) (leaf White) p = sym (either_white (colour (halved a b) p))
over_colour (halved a b) (leaf Black) p = sym (either_black (colour (halved a b) p))
over_colour (halved a b) (halved c d) [] = refl
over_colour (halved a b) (halved c d) (h ∷ p) =
    of_choice colour_of (eqb h 0) (part (over a c) p) (part (over b d) p)
    ∙ ap₂ (cond (eqb h 0)) (over_colour a c p) (over_colour b d p)
    ∙ choice either (eqb h 0) (colour a p) (colour b p) (colour c p) (colour d p)
    ∙ sym (ap₂ either (of_choice colour_of (eqb h 0) (part a p) (part b p)) (of_choice colour_of (eqb h 0) (part c p) (part d p)))

pub black_left : (c d : Colour) → c ≡ Black → either c d ≡ Black
black_left c d e = rw e

pub black_right : (c d : Colour) → d ≡ Black → either c d ≡ Black
black_right c d e = rw e (either_black c)

pub black_one : (c d : Colour) → either c d ≡ Black → (c ≡ Black) ⊎ (d ≡ Black)
black_one Black d e = inl refl
black_one White d e = inr e

-- ---- size and depth

pub over_size : (a b : Shape) → size (over a b) ≤ size a + size b
unfolding over size
over_size (leaf White) t = omega arith
over_size (leaf Black) t = omega arith
over_size (halved a b) (leaf White) = omega arith
over_size (halved a b) (leaf Black) = omega arith
over_size (halved a b) (halved c d) = omega (arith, over_size a c, over_size b d)

pub over_deep : (a b : Shape) (n : ℕ) → depth a ≤ n → depth b ≤ n → depth (over a b) ≤ n
unfolding over depth
over_deep (leaf White) t n h k = k
over_deep (leaf Black) t n h k = omega arith
over_deep (halved a b) (leaf White) n h k = h
over_deep (halved a b) (leaf Black) n h k = omega arith
over_deep (halved a b) (halved c d) zero h k = absurd (omega arith)
over_deep (halved a b) (halved c d) (suc n) h k =
    omega (arith, over_deep a c n (omega arith) (omega arith), over_deep b d n (omega arith) (omega arith))

-- ---- it may be done in any order

pub over_white : (a : Shape) → over a (leaf White) ≡ a
unfolding over
over_white (leaf Black) = refl
over_white (leaf White) = refl
over_white (halved a b) = refl

pub over_black : (a : Shape) → over a (leaf Black) ≡ leaf Black
unfolding over
over_black (leaf Black) = refl
over_black (leaf White) = refl
over_black (halved a b) = refl

over_swap : (a b : Shape) → over a b ≡ over b a
unfolding over
over_swap (leaf White) t = sym (over_white t)
over_swap (leaf Black) t = sym (over_black t)
over_swap (halved a b) (leaf White) = refl
over_swap (halved a b) (leaf Black) = refl
over_swap (halved a b) (halved c d) = ap₂ halved (over_swap a c) (over_swap b d)

pub over_group : (a b c : Shape) → over (over a b) c ≡ over a (over b c)
unfolding over
over_group (leaf White) b c = refl
over_group (leaf Black) b c = refl
over_group (halved a b) (leaf White) c = refl
over_group (halved a b) (leaf Black) c = refl
over_group (halved a b) (halved c d) (leaf White) = refl
over_group (halved a b) (halved c d) (leaf Black) = refl
over_group (halved a b) (halved c d) (halved e f) = ap₂ halved (over_group a c e) (over_group b d f)

pub over_pairs : (a b c d : Shape) → over (over a b) (over c d) ≡ over (over a c) (over b d)
over_pairs a b c d =
    over_group a b (over c d)
    ∙ ap (over a) (sym (over_group b c d) ∙ ap (λ s. over s d) (over_swap b c) ∙ over_group c b d)
    ∙ sym (over_group a c (over b d))

pub over_same : (s : Shape) → over s s ≡ s
unfolding over
over_same (leaf Black) = refl
over_same (leaf White) = refl
over_same (halved a b) = ap₂ halved (over_same a) (over_same b)
