-- `leaf_digit` by the kind of the leaf that the code has.
use mathlib.Core.Path.{refl}
use Rattle.at_once.proofs.LeafWords.{side_value, gives_white, gives_black, exchange_fits, gives_own, gives_reversed}
use Rattle.at_once.proofs.Voxels.{voxel_side}
use Rattle.at_once.proofs.voxel.leaf_digit.Goals as goal

pub returns-then-code-eq0 : goal.returns-then-code-eq0
returns-then-code-eq0 c = λ job. gives_white job.word c.if-code-eq0.true

pub returns-then-code-lt-FIRST_SIDE : goal.returns-then-code-lt-FIRST_SIDE
returns-then-code-lt-FIRST_SIDE c = λ job. gives_black job.word c.if-code-eq0.false c.if-code-lt-FIRST_SIDE.true refl

pub surface_digit-digit-requires : goal.surface_digit-digit-requires
surface_digit-digit-requires c =
    record { fact = voxel_side c.requires.fact c.if-code-lt-FIRST_SIDE.false; value_of = side_value c.requires.value_of }

pub overflow_sub-result : goal.overflow_sub-result
overflow_sub-result c = let job = c.requires.fact in let l = c.if-code-lt-FIRST_SIDE.false in
    exchange_fits job.word l (c.surface_digit-digit.ensures (voxel_side job l)) refl

pub returns-then-code-eq1 : goal.returns-then-code-eq1
returns-then-code-eq1 c = let l = c.if-code-lt-FIRST_SIDE.false in
    λ job. gives_reversed job.word l (c.surface_digit-digit.ensures (voxel_side job l)) c.if-code-eq1.true refl

pub returns : goal.returns
returns c = let l = c.if-code-lt-FIRST_SIDE.false in
    λ job. gives_own job.word l (c.surface_digit-digit.ensures (voxel_side job l)) c.if-code-eq1.false
