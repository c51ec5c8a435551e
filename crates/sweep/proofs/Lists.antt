-- The first places of a list after stores, and trees that stand at them; and what is held back of two shapes.
use mathlib.Core.Path.{◌≡◌, refl, sym, ap, ◌∙◌}
use mathlib.Core.List.{List}
use Prim.Native.Nat.{ℕ, ◌+◌, ◌≤◌}
use native.Mathlib.Omega.{arith}
use lib.ListN.{length, take, drop}
use lib.Seq.{length-take-le, take_at, sets, sets-eq}
use Rattle.std.specs.Prelude.{Option, unwrap_or}
use Rattle.bintree.specs.declared.Colour.TheVariants.{White, Black}
use Rattle.bintree.specs.Shape.{Shape, leaf, halved}
use Rattle.bintree.specs.Walks.{leaf_symbol, is_alike}
use Rattle.sweep.specs.declared.block.Piece.{Piece}
use Rattle.sweep.specs.Places.{Stand, Inside, is_same, held_leaf}
use Rattle.sweep.proofs.Trees.{stand_length, stand_inside}

pub piece_eq : {a b : Option ℕ} {e f : ℕ} → a ≡ b → e ≡ f → ◌≡◌ {A = Piece} (record { held = a; end = e }) (record { held = b; end = f })
piece_eq p q = λ i. record { held = p i; end = q i }

-- ---- places

pub sets_front : (vs work : List ℕ) → length vs ≤ length work → take (length vs) (sets work 0 vs) ≡ vs
sets_front vs work h = ap (take (length vs)) (sets-eq vs work 0 (omega arith)) ∙ take_at vs (drop (0 + length vs) work) (length vs) refl

pub stand_places : {s : List ℕ} {left : ℕ} {ps : List ℕ} {ts : List Shape} → Stand s left ps ts → Inside s ps
stand_places w = record { inside = stand_inside w }

pub stand_count : {s : List ℕ} (work : List ℕ) {left : ℕ} (n : ℕ) {ts : List Shape} → Stand s left (take n work) ts → n ≤ length work → length ts ≡ n
stand_count work n w h = sym (stand_length w) ∙ length-take-le n work h

-- ---- what is held back

pub held_alike : (a b : Shape) → is_same (held_leaf a) (held_leaf b) ≡ is_alike (leaf_symbol a) (leaf_symbol b)
unfolding held_leaf leaf_symbol is_same is_alike
held_alike (leaf Black) (leaf Black) = refl
held_alike (leaf Black) (leaf White) = refl
held_alike (leaf White) (leaf Black) = refl
held_alike (leaf White) (leaf White) = refl
held_alike (leaf Black) (halved x y) = refl
held_alike (leaf White) (halved x y) = refl
held_alike (halved x y) b = refl

pub held_written : (a : Shape) → unwrap_or (held_leaf a) 0 ≡ leaf_symbol a
unfolding held_leaf leaf_symbol
held_written (leaf c) = refl
held_written (halved x y) = refl
