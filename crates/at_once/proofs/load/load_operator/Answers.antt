-- `load_operator`: MINUS turns over what stands behind the start, and then every operator's code is stored behind that.
use native.Mathlib.Omega.{arith}
use Rattle.at_once.proofs.Loading.{word_few, turning_asks, turned_inside, joined_turned, joined_plain}
use Rattle.at_once.proofs.load.load_operator.Goals as goal

pub turn-requires : goal.turn-requires
turn-requires c = turning_asks c.requires

pub offset_bounds-codes-at : goal.offset_bounds-codes-at
offset_bounds-codes-at c = let t = c.turn.ensures (turning_asks c.requires) in
    omega (
      arith,
      turned_inside c.requires c.if-word-eq-MINUS.true t,
      t.below.long,
      c.well_formed.0.1,
    )

pub bounds-codes-at : goal.bounds-codes-at
bounds-codes-at c = let t = c.turn.ensures (turning_asks c.requires) in
    turned_inside c.requires c.if-word-eq-MINUS.true t

pub shape_of-codes-then-word-eq-MINUS : goal.shape_of-codes-then-word-eq-MINUS
shape_of-codes-then-word-eq-MINUS c = let t = c.turn.ensures (turning_asks c.requires) in
    (joined_turned c.requires c.if-word-eq-MINUS.true t).below.long

pub returns-then-word-eq-MINUS : goal.returns-then-word-eq-MINUS
returns-then-word-eq-MINUS c = λ j. joined_turned j c.if-word-eq-MINUS.true (c.turn.ensures (turning_asks j))

pub overflow_mul-codes : goal.overflow_mul-codes
overflow_mul-codes c = omega (arith, (word_few c.requires).1)

pub offset_bounds-codes-at-2 : goal.offset_bounds-codes-at-2
offset_bounds-codes-at-2 c = omega (arith, c.requires.inside, c.well_formed.0.1)

pub bounds-codes-at-2 : goal.bounds-codes-at-2
bounds-codes-at-2 c = c.requires.inside

pub shape_of-codes : goal.shape_of-codes
shape_of-codes c = (joined_plain c.requires c.if-word-eq-MINUS.false).below.long

pub returns : goal.returns
returns c = λ j. joined_plain j c.if-word-eq-MINUS.false
