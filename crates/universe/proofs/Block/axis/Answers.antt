-- A block of level l has L − l levels left, and its axis stands one place before that.
use mathlib.Core.Path.{◌≡◌, refl, ap, ◌∙◌}
use Prim.Native.Nat.{ℕ, suc, ◌-◌, ◌<◌}
use native.Mathlib.Omega.{arith}
use Rattle.universe.specs.declared.Block.{Block}
use Rattle.universe.specs.Universe.{universe_refusal, most_levels, levels, axis_at}
use Rattle.universe.specs.Questions.{levels_answer}
use Rattle.universe.proofs.Universes.{accepted, levels_few}
use Rattle.universe.proofs.Questions.{levels_told, axes_left_at}
use Rattle.universe.proofs.Block.axis.Goals as goal

pub overflow_sub-result : goal.overflow_sub-result
overflow_sub-result c = omega (arith, levels_told _ refl c.requires.universe_value c.levels.ensures)

pub overflow_sub-result-2 : goal.overflow_sub-result-2
overflow_sub-result-2 c = omega (arith, levels_told _ refl c.requires.universe_value c.levels.ensures)

few : (b : Block) → universe_refusal b.universe ≡ 0 → b.level < levels b.universe → {n : ℕ} → n ≡ levels_answer b.universe → n - 1 - b.level < most_levels
few b z h e = omega (arith, levels_told b.universe refl z e, levels_few b.universe (accepted b.universe z))

pub offset_bounds-axes-levels : goal.offset_bounds-axes-levels
offset_bounds-axes-levels c = omega (arith, few c.args.self c.requires.universe_value c.requires.level_bound c.levels.ensures)

pub bounds-axes-levels : goal.bounds-axes-levels
bounds-axes-levels c = few c.args.self c.requires.universe_value c.requires.level_bound c.levels.ensures

pub returns : goal.returns
returns c =
    let u = c.args.self.universe in
    let z = c.requires.universe_value in
    let all = levels_told u refl z c.levels.ensures in
    let n = c.levels.result - 1 - c.args.self.level in
    rw c.axes_left-axes.ensures
    (axes_left_at u z n (omega arith)
    ∙ ap (axis_at u) (let back : levels u - suc n ≡ c.args.self.level = omega arith in back))
