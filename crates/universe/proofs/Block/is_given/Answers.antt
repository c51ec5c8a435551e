-- The tests of a given block, the last one over all axes.
use Rattle.std.proofs.Common.{◌≡◌, ℕ, ◌≤◌, Bool, true, false, rules, arith, refl}
use borrow.Author.Tests.{le-leb}
use Rattle.std.proofs.lemmas.Iterator.{serves_from_Range, YieldsList-from_range, cases_from_all}
use Rattle.lemmas.proofs.Chains.{every_told}
use Rattle.lemmas.specs.Sums.{every}
use Rattle.universe.specs.declared.Block.{Block}
use Rattle.universe.specs.Questions.{levels_answer}
use Rattle.universe.specs.Universe.{universe_refusal, levels, most_axes}
use Rattle.universe.specs.Block.{placed_along, is_given}
use Rattle.universe.proofs.Checked.{err_accepts}
use Rattle.universe.proofs.Questions.{levels_told}
use Rattle.universe.proofs.Block.is_given.Goals as goal

module _ (b : Block) {n : ℕ} (e : n ≡ levels_answer b.universe) (k : b.level ≤ n) (z : universe_refusal b.universe ≡ 0) where
  within : b.level ≤ levels b.universe
  within = omega (arith, levels_told b.universe refl z e)

  last_test : {placed : Bool} → placed ≡ every most_axes (placed_along b) → placed ≡ is_given b
  unfolding is_given
  last_test f = rw (z, le-leb _ _ within, f)

pub all-requires-clause-callable : goal.all-requires-clause-callable
all-requires-clause-callable c =
    let z = err_accepts _ c.check.ensures cc in
    let k = within c.args.self c.levels.ensures c.if-levels-self.false z in
    serves_from_Range (λ x q h. search rules) (λ x l h. search rules)

pub returns : goal.returns
returns c =
    let b = c.args.self in
    last_test b c.levels.ensures c.if-levels-self.false (err_accepts _ c.check.ensures cc)
    (every_told (placed_along b) most_axes _
    (cases_from_all _ _ _ (λ x. placed_along b x ≡ true) (λ x. placed_along b x ≡ false) c.all.ensures.ran
    (YieldsList-from_range 0 4 4 refl refl)
    (λ x q k. search rules)
    (λ x q k. search rules)))
