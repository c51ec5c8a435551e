-- The length, and then each byte.
use Prim.Native.Nat.{◌≤◌, ◌<◌}
use native.Mathlib.Omega.{arith}
use Rattle.std.proofs.Common.{rules, tests}
use Rattle.std.proofs.lemmas.Iterator.{cases_from_any, YieldsList-from_slice}
use Rattle.bintree.proofs.Places.{too_long, no_half, halves_all}
use Rattle.bintree.proofs.place.check_path.Goals.{then-levels-path-via-then-levels-path, then-levels-path-via-else-levels-path+then-any}
use Rattle.bintree.proofs.place.check_path.Goals as goal

pub returns-then-levels-path : goal.returns-then-levels-path
returns-then-levels-path c =
    elim c.then-levels-path.branch [
      | then-levels-path-via-then-levels-path w ↦ too_long _ _ _ c.levels.ensures w.if-levels-path.true
      | then-levels-path-via-else-levels-path+then-any w ↦
          let k =
          cases_from_any _ _ _ (λ x. 1 < x) (λ x. x ≤ 1) w.any.ensures.ran (YieldsList-from_slice c.args.path.now cc)
          (λ x q k. search (rules, tests)) (λ x q k. search (rules, tests))
          in
          let one = rw w.if-any.true at k in
          no_half _ _ one.0 one.1 (one.2 0)
    ]

pub returns : goal.returns
returns c =
    let k =
    cases_from_any _ _ _ (λ x. 1 < x) (λ x. x ≤ 1) c.any.ensures.ran (YieldsList-from_slice c.args.path.now cc)
    (λ x q k. search (rules, tests)) (λ x q k. search (rules, tests))
    in
    let each = rw c.if-any.false at k in
    halves_all _ _ _ c.levels.ensures c.if-levels-path.false (λ i h. each i 0 (omega arith) h)
