-- The marks by the moved values are paired, and of voxels the colours too; moved values are small, so that nothing overflows.
use Rattle.std.proofs.Common.{pos, ◌+ℤ◌, ◌-ℤ◌, ◌∙◌}
use Rattle.convert.proofs.Slots.{moved_mark, moved_colour, codes_over, codes_at}
use Rattle.convert.proofs.judge.codes_of_values.Goals as goal

pub returns-then-not-centre : goal.returns-then-not-centre
returns-then-not-centre c =
    let q = c.requires in
    let a = c.args in
    codes_over (a.least +ℤ pos a.one) (a.greatest -ℤ pos a.other) (a.least +ℤ pos a.other) (a.greatest -ℤ pos a.one)
    (c.mark_by_values-below.ensures.value ∙ moved_mark q.small_value.0 q.small_value.1 q.small_amount.0 q.small_amount.1)
    (c.mark_by_values-above.ensures.value ∙ moved_mark q.small_value.0 q.small_value.1 q.small_amount.1 q.small_amount.0)
    c.paired-marks.ensures
    c.if-not-centre.true

pub returns : goal.returns
returns c =
    let q = c.requires in
    let a = c.args in
    codes_at (a.least +ℤ pos a.one) (a.greatest -ℤ pos a.other) (a.least +ℤ pos a.other) (a.greatest -ℤ pos a.one)
    (c.mark_by_values-below.ensures.value ∙ moved_mark q.small_value.0 q.small_value.1 q.small_amount.0 q.small_amount.1)
    (c.mark_by_values-above.ensures.value ∙ moved_mark q.small_value.0 q.small_value.1 q.small_amount.1 q.small_amount.0)
    c.paired-marks.ensures
    c.if-not-centre.false
    (c.colour_by_values-below_colour.ensures.value ∙ moved_colour q.small_value.0 q.small_value.1 q.small_amount.0 q.small_amount.1)
    (c.colour_by_values-above_colour.ensures.value ∙ moved_colour q.small_value.0 q.small_value.1 q.small_amount.1 q.small_amount.0)
    c.paired.ensures
