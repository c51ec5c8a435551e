-- Work room of a call's own: the nodes that the words of trees need are worked out of the universe's levels, where they are few enough for the product to fit.
use Prim.Native.Nat.{ℕ, suc, ◌+◌, ◌*◌, ◌≤◌}
use mathlib.Core.Path.{◌≡◌, refl, ap}
use native.Mathlib.Omega.{arith}
use native.Mathlib.Nat.{mul-le-mul}
use Rattle.universe.specs.declared.Universe.{Universe}
use Rattle.universe.specs.Universe.{levels, most_levels}
use Rattle.universe.specs.Questions.{levels_answer}
use Rattle.universe.proofs.Questions.{levels_told, levels_answered}
use Rattle.local.specs.Rooms.{many, Suffices}

-- the nodes of so many words, by what the universe answers
module _ (u : Universe) (words : ℕ) {levels : ℕ} (l : levels ≡ levels_answer u) where
  pub levels_few : levels ≤ most_levels
  levels_few = omega (arith, l, levels_answered u)

  pub nodes_few : words ≤ many → (levels + 1) * words ≤ suc most_levels * many
  nodes_few h = let a : levels + 1 ≤ suc most_levels = omega (arith, levels_few) in mul-le-mul a h

  pub nodes_suffice : {nodes : ℕ} → nodes ≡ (levels + 1) * words → nodes ≤ many → Suffices u words nodes
  nodes_suffice e h = record { enough = λ z. omega (arith, e, ap (λ (k : ℕ). (k + 1) * words) (levels_told u refl z l)) }

-- so many suffice for fewer words too, and for none besides
pub fewer_suffice : {u : Universe} (words more : ℕ) {nodes : ℕ} → Suffices u (words + more) nodes → Suffices u words nodes
fewer_suffice {u} words more s =
    let l : levels u + 1 ≤ levels u + 1 = omega arith in
    let w : words ≤ words + more = omega arith in
    record { enough = λ z. omega (arith, s.enough z, mul-le-mul l w) }
