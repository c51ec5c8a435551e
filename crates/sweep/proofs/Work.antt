-- THEOREM: a pass reads at most as many symbols for each of the expression's as the dropped axis has bits, and four more. By recursion over the order: the
-- halves of a
-- list have fewer symbols than the list, by at least one for each of its trees.
use mathlib.Core.Path.{◌≡◌, subst}
use mathlib.Core.Bool.{Bool, true, false, cond}
use mathlib.Core.List.{List, [], ◌∷◌, ◌++◌}
use Prim.Native.Nat.{ℕ, ◌+◌, ◌*◌, ◌≤◌, ◌<◌}
use native.Mathlib.Omega.{arith}
use native.Mathlib.Decide.{ℕ_discrete}
use native.Mathlib.Nat.{le_refl, mul-le-mul}
use lib.Dec.{eqb}
use lib.ListN.{length}
use borrow.Author.Tests.{eq-eqb, ne_eqb}
use Rattle.lemmas.specs.Lists.{occurrences}
use Rattle.universe.specs.declared.Universe.{Universe}
use Rattle.universe.specs.Universe.{bits_along, order}
use Rattle.bintree.specs.Shape.{Shape, size}
use Rattle.sweep.specs.Places.{unions, lows, highs, total}
use Rattle.sweep.specs.Work.{is_halved, reads}
use Rattle.sweep.proofs.Paths.{all_often}
use Rattle.sweep.proofs.Trees.{halves_total, total_append}

few_trees : (ts : List Shape) → length ts ≤ total ts
few_trees ts = omega (arith, halves_total ts)

-- one level: n trees, with t symbols, l of them in low halves and h in high ones
step_across : (c n t l h r : ℕ) → n + (l + h) ≤ t → r ≤ (c + 4) * (l + h) → 3 * n + (l + r) ≤ (1 + c + 4) * t
step_across c n t l h r k e =
    let more : (1 + c + 4) * (n + (l + h)) ≤ (1 + c + 4) * t = mul-le-mul (le_refl (1 + c + 4)) k in
    omega arith

step_each : (c n t l h a b : ℕ) → n + (l + h) ≤ t → a ≤ (c + 4) * l → b ≤ (c + 4) * h → 3 * n + (a + b) ≤ (0 + c + 4) * t
step_each c n t l h a b k e f =
    let more : (0 + c + 4) * (n + (l + h)) ≤ (0 + c + 4) * t = mul-le-mul (le_refl (0 + c + 4)) k in
    omega arith

settled_few : (c n t : ℕ) → n ≤ t → n + t ≤ (c + 4) * t
settled_few c n t h = omega arith

pub few_reads : (order : List ℕ) (j : ℕ) (ts : List Shape) → reads order j ts ≤ (occurrences j order + 4) * total ts
unfolding reads occurrences
few_reads [] j ts = settled_few 0 (length ts) (total ts) (few_trees ts)
few_reads (x ∷ order) j ts =
    go (is_halved (unions ts)) (ℕ_discrete x j)
    (subst (λ n. reads order j (lows ts ++ highs ts) ≤ (occurrences j order + 4) * n) (total_append (lows ts) (highs ts))
    (few_reads order j (lows ts ++ highs ts)))
    (few_reads order j (lows ts)) (few_reads order j (highs ts))
  where
    l : ℕ
    l = total (lows ts)

    h : ℕ
    h = total (highs ts)

    go : (t : Bool) → Dec (x ≡ j) → reads order j (lows ts ++ highs ts) ≤ (occurrences j order + 4) * (l + h) →
        reads order j (lows ts) ≤ (occurrences j order + 4) * l → reads order j (highs ts) ≤ (occurrences j order + 4) * h →
        cond t (3 * length ts + cond (eqb x j) (l + reads order j (lows ts ++ highs ts)) (reads order j (lows ts) + reads order j (highs ts)))
        (length ts + total ts)
        ≤ (cond (eqb x j) 1 0 + occurrences j order + 4) * total ts
    go false d p q r = settled_few (cond (eqb x j) 1 0 + occurrences j order) (length ts) (total ts) (few_trees ts)
    go true (yes e) p q r =
        rw (eq-eqb x j e) (step_across (occurrences j order) (length ts) (total ts) l h (reads order j (lows ts ++ highs ts)) (halves_total ts) p)
    go true (no n) p q r =
        rw (ne_eqb x j n) (step_each (occurrences j order) (length ts) (total ts) l h (reads order j (lows ts)) (reads order j (highs ts))
        (halves_total ts) q r)

-- of an expression: b times its length and four times more, where the dropped axis has b bits
pub sweep_reads : (u : Universe) (j : ℕ) → j < u.axes → (s : Shape) → reads (order u) j (s ∷ []) ≤ (bits_along u j + 4) * size s
unfolding total
sweep_reads u j h s =
    let one : total (s ∷ []) ≡ size s = omega arith in
    subst (λ n. reads (order u) j (s ∷ []) ≤ (bits_along u j + 4) * n) one
    (subst (λ c. reads (order u) j (s ∷ []) ≤ (c + 4) * total (s ∷ [])) (all_often u j h) (few_reads (order u) j (s ∷ [])))
