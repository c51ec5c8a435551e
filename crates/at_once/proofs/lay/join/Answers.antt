-- `join` is the joining of two halves: by its test.
use mathlib.Core.Path.{refl, sym, ◌∙◌}
use Rattle.convert.specs.Shapes.{is_one}
use Rattle.at_once.proofs.lay.join.Goals as goal

pub returns-then-is_alike : goal.returns-then-is_alike
unfolding is_one
returns-then-is_alike c = rw (sym c.is_alike.ensures ∙ c.if-is_alike.true) (record { value = refl; out_after = refl })

pub returns : goal.returns
unfolding is_one
returns c =
    rw (sym c.is_alike.ensures ∙ c.if-is_alike.false) (record { value = refl; out_after = c.join_halves.ensures })
