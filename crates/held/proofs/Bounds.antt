-- The largest of the counts is the largest held count; it is at most twice the levels, and `(B(B..W` of as many levels has that many.
use mathlib.Core.Path.{◌≡◌, refl}
use mathlib.Core.Bool.{Bool, true, false, cond}
use mathlib.Core.List.{List, [], ◌∷◌, ◌++◌}
use Prim.Native.Nat.{ℕ, zero, suc, ◌+◌, ◌-◌, ◌*◌, ◌≤◌, ◌<◌, max}
use native.Mathlib.Nat.{max-le, le-max_left, le-max_right}
use native.Mathlib.Decide.{dec_lt}
use native.Mathlib.Omega.{arith}
use lib.ListN.{length, take, get_or}
use Rattle.universe.specs.declared.Universe.{Universe}
use Rattle.universe.specs.Universe.{levels}
use Rattle.bintree.specs.declared.Colour.{Colour}
use Rattle.bintree.specs.declared.Colour.TheVariants.{White, Black}
use Rattle.bintree.specs.Shape.{Shape, leaf, halved, symbols, depth}
use Rattle.bintree.specs.Merging.{merged, is_pair, onward, held_in, held_after, largest, most_held}
use Rattle.bintree.proofs.Shape.{length_symbols, size_positive}
use Rattle.bintree.proofs.Measures.{largest_append, held_all}
use Rattle.held.specs.Held.{LargestHeld, at_bound}
use Rattle.held.proofs.Symbols.{length_after, held_after_lem, held_once}

pub largest_above : (l : List ℕ) (i : ℕ) → get_or l i 0 ≤ largest l
unfolding largest
largest_above [] i = omega arith
largest_above (x ∷ l) zero = le-max_left x (largest l)
largest_above (x ∷ l) (suc i) = omega (arith, largest_above l i, le-max_right x (largest l))

record Somewhere (l : List ℕ) : Type 0 where
  place : ℕ
  within : place < length l
  is : get_or l place 0 ≡ largest l

somewhere : (x : ℕ) (l : List ℕ) → Somewhere (x ∷ l)
unfolding largest
somewhere x [] = record { place = 0; within = omega arith; is = omega arith }
somewhere x (y ∷ l) = go (somewhere y l) (dec_lt x (largest (y ∷ l)))
  where
    go : Somewhere (y ∷ l) → Dec (x < largest (y ∷ l)) → Somewhere (x ∷ (y ∷ l))
    go s (yes h) = record { place = suc s.place; within = omega (arith, s.within); is = omega (arith, s.is) }
    go s (no h) = record { place = 0; within = omega arith; is = omega arith }

some_place : (l : List ℕ) → 1 ≤ length l → Somewhere l
some_place [] h = absurd (omega arith)
some_place (x ∷ l) h = somewhere x l

-- THEOREM: the largest of the counts is the largest held count
pub most_held_lem : (u : Universe) (s : Shape) → depth s ≤ levels u → LargestHeld u (symbols s) (most_held s)
unfolding most_held
most_held_lem u s deep =
    let p = some_place (held_after s) (omega (arith, length_after s, size_positive s)) in
    record {
      most = λ n h a b x.
          let d : suc (n - 1) ≡ n = omega arith in
          let y = held_after_lem u s deep (n - 1) (omega (arith, length_symbols s)) in
          omega (arith, held_once u (take n (symbols s)) h (get_or (held_after s) (n - 1) 0) x (rw d at y), largest_above (held_after s) (n - 1));
      after = suc p.place;
      read = (omega arith, omega (arith, p.within, length_after s, length_symbols s));
      attained = rw p.is at (held_after_lem u s deep p.place (omega (arith, p.within, length_after s)));
    }

-- the largest held count is one number
pub largest_once : (u : Universe) (text : List ℕ) (m n : ℕ) → LargestHeld u text m → LargestHeld u text n → m ≡ n
largest_once u text m n x y =
    omega (arith, x.most y.after n y.read.0 y.read.1 y.attained, y.most x.after m x.read.0 x.read.1 x.attained)

-- ---- THEOREM: at most twice the levels

onward_le : (c : Colour) (run : ℕ) (a : Shape) → onward c run a ≤ run + 2
unfolding onward
onward_le c run a = go (is_pair (leaf c) (merged a))
  where
    go : (t : Bool) → cond t (run + 2) 0 ≤ run + 2
    go true = omega arith
    go false = omega arith

largest_both : (l m : List ℕ) (k : ℕ) → largest l ≤ k → largest m ≤ k → largest (l ++ m) ≤ k
largest_both l m k g h = rw (largest_append l m) (max-le g h)

pub held_bound : (b w k : ℕ) (s : Shape) → b ≤ k → w ≤ k → largest (held_in b w s) ≤ k + 2 * depth s
unfolding held_in largest depth
held_bound b w k (leaf c) g h = omega arith
held_bound b w k (halved x y) g h =
    let m = k + 2 * suc (max (depth x) (depth y)) in
    let u = le-max_left (depth x) (depth y) in
    let v = le-max_right (depth x) (depth y) in
    let p = onward_le Black b x in
    let q = onward_le White w x in
    let b' = onward Black b x in
    let w' = onward White w x in
    let i : largest (held_in (b + 1) (w + 1) x) ≤ m = omega (arith, held_bound (b + 1) (w + 1) (k + 1) x (omega arith) (omega arith)) in
    let j : largest (held_in b' w' y) ≤ m = omega (arith, held_bound b' w' (k + 2) y (omega arith) (omega arith)) in
    max-le (max-le (omega arith) (omega arith))
    (largest_both (held_in (b + 1) (w + 1) x) (max b' w' ∷ held_in b' w' y) m i (max-le (max-le (omega arith) (omega arith)) j))

pub most_bound : (n : ℕ) (s : Shape) → depth s ≤ n → most_held s ≤ 2 * n
most_bound n s h = omega (arith, held_bound 0 0 0 s (omega arith) (omega arith), held_all s)

-- ---- THEOREM: for every number of levels some expression has that many

pub bound_depth : (n : ℕ) → depth (at_bound n) ≡ n
unfolding at_bound depth
bound_depth zero = refl
bound_depth (suc n) = omega (arith, bound_depth n)

later : (x y r : ℕ) → r ≤ max x (max y r)
later x y r = omega arith

first_run : (b w : ℕ) (t : Shape) → b + 2 ≤ largest (held_in b w (halved (leaf Black) t))
unfolding held_in largest onward is_pair merged
first_run b w t = omega arith

later_run : (b w : ℕ) (t : Shape) → largest (held_in (b + 2) 0 t) ≤ largest (held_in b w (halved (leaf Black) t))
unfolding held_in largest onward is_pair merged
later_run b w t = later (max (b + 1) (w + 1)) (max (b + 2) 0) (largest (held_in (b + 2) 0 t))

all_runs : (b w n : ℕ) → b + 2 * suc n ≤ largest (held_in b w (at_bound (suc n)))
unfolding at_bound
all_runs b w zero = omega (arith, first_run b w (leaf White))
all_runs b w (suc n) = omega (arith, all_runs (b + 2) 0 n, later_run b w (at_bound (suc n)))

bound_least : (n : ℕ) → 2 * n ≤ largest (held_in 0 0 (at_bound n))
bound_least zero = omega arith
bound_least (suc n) = omega (arith, all_runs 0 0 n)

pub bound_attained : (n : ℕ) → most_held (at_bound n) ≡ 2 * n
bound_attained n = omega (arith, bound_least n, held_all (at_bound n), most_bound n (at_bound n) (omega (arith, bound_depth n)))
