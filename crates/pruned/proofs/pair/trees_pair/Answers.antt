-- `trees_pair`: an operator has the two last shapes pending, and a leaf finds room for one more.
use Rattle.std.proofs.Common.{◌≤◌, ◌<◌, ◌∙◌, sym, arith}
use Rattle.pruned.specs.Nodes.{most_shapes}
use Rattle.pruned.proofs.Pairs.{passing_start, pair_code_ready, pair_room, pair_leaf, passing_leaf, pair_two, passing_join, passing_end}
use Rattle.pruned.proofs.pair.trees_pair.Goals.{Then-is_join, Else-is_join, then-is_join, else-is_join}
use Rattle.pruned.proofs.pair.trees_pair.Goals as goal

two : (c : Then-is_join) → (2 ≤ c.loop-i.pending) × (c.loop-i.pending ≤ most_shapes)
two c =
    let j = c.requires.fact in
    let g = c.loop-i.invariant j in
    (pair_two j g c.loop-i-test.true c.code_at-code.ensures (sym c.is_join.ensures ∙ c.if-is_join.true), g.few)

one_more : (c : Else-is_join) → c.loop-i.pending < most_shapes
one_more c =
    let j = c.requires.fact in
    pair_room j (c.loop-i.invariant j) c.loop-i-test.true c.code_at-code.ensures (sym c.is_join.ensures ∙ c.if-is_join.false)

pub loop-i-init : goal.loop-i-init
loop-i-init c = λ job. passing_start job c.requires.pairs_len

pub code_at-code-requires : goal.code_at-code-requires
code_at-code-requires c = let j = c.requires.fact in pair_code_ready j (c.loop-i.invariant j) c.loop-i-test.true

pub overflow_sub-second : goal.overflow_sub-second
overflow_sub-second c = omega (arith, two c)

pub bounds-pairs-pending : goal.bounds-pairs-pending
bounds-pairs-pending c = omega (arith, two (goal.at.bounds-pairs-pending c).Then-is_join)

pub overflow_sub-first : goal.overflow_sub-first
overflow_sub-first c = omega (arith, two (goal.at.overflow_sub-first c).Then-is_join)

pub bounds-pairs-pending-then-is_join : goal.bounds-pairs-pending-then-is_join
bounds-pairs-pending-then-is_join c = omega (arith, two (goal.at.bounds-pairs-pending-then-is_join c).Then-is_join)

pub overflow_sub-pairs : goal.overflow_sub-pairs
overflow_sub-pairs c = omega (arith, two (goal.at.overflow_sub-pairs c).Then-is_join)

pub bounds-pairs-pending-then-is_join-2 : goal.bounds-pairs-pending-then-is_join-2
bounds-pairs-pending-then-is_join-2 c = omega (arith, two (goal.at.bounds-pairs-pending-then-is_join-2 c).Then-is_join)

pub overflow_sub-pending : goal.overflow_sub-pending
overflow_sub-pending c = omega (arith, two (goal.at.overflow_sub-pending c).Then-is_join)

pub pair_of_leaf-requires : goal.pair_of_leaf-requires
pair_of_leaf-requires c =
    let j = c.requires.fact in
    pair_leaf j (c.loop-i.invariant j) c.loop-i-test.true c.code_at-code.ensures (sym c.is_join.ensures ∙ c.if-is_join.false)

pub bounds-pairs-pending-else-is_join : goal.bounds-pairs-pending-else-is_join
bounds-pairs-pending-else-is_join c = omega (arith, one_more (goal.at.bounds-pairs-pending-else-is_join c).Else-is_join)

pub overflow_add-pending : goal.overflow_add-pending
overflow_add-pending c = omega (arith, one_more (goal.at.overflow_add-pending c).Else-is_join)

pub loop-i-preserved : goal.loop-i-preserved
loop-i-preserved c =
    let h = c.loop-i-test.true in
    let r = c.code_at-code.ensures in
    let e = c.is_join.ensures in
    λ j. let g = c.loop-i.invariant j in
    elim c.if-is_join.branch [
      | then-is_join w ↦ rw (w.pairs-is, w.pending-is) (passing_join j g h r (sym e ∙ w.if-is_join.true) w.joined_pair.ensures)
      | else-is_join w ↦
          let o = sym e ∙ w.if-is_join.false in
          rw (w.pairs-is, w.pending-is) (passing_leaf j g h r o (w.pair_of_leaf.ensures (pair_leaf j g h r o)))
    ]

pub returns-clause-fact_2 : goal.returns-clause-fact_2
returns-clause-fact_2 c = λ job. passing_end job (c.loop-i.invariant job) c.loop-i-test.false c.whole_pair.ensures

pub returns-clause-pairs_len_2 : goal.returns-clause-pairs_len_2
returns-clause-pairs_len_2 c = (c.loop-i.invariant c.requires.fact).long
