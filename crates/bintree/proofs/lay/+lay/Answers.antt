-- Each answer is a law of proofs/Lays.antt.
use native.Mathlib.Omega.{arith}
use Rattle.std.proofs.Common.{rules, tests}
use Rattle.bintree.proofs.Lays.{lay_end, lay_deep, lay_other, lay_leaf, lay_low, lay_shorter, lay_high, lay_alike, lay_apart}
use Rattle.bintree.proofs.lay.+lay.Goals as goal

pub returns-in_err-symbol : goal.returns-in_err-symbol
returns-in_err-symbol t c = rw c.from_residual.ensures (lay_end _ _ _ _ _ _ (search (rules, tests)))

pub returns-then-left-eq0 : goal.returns-then-left-eq0
returns-then-left-eq0 t c = lay_deep _ _ _ _ _ _ (search rules) c.if-left-eq0.true

pub returns-in_err-low-in-40 : goal.returns-in_err-low-in-40
returns-in_err-low-in-40 t c =
    rw c.from_residual-in_err-low-in-40.ensures
    (lay_low _ _ _ _ _ _ (search rules) c.if-left-eq0.false c.in_err-low-in-40.ensures)

pub lay-requires-in-40 : goal.lay-requires-in-40
lay-requires-in-40 t c = (omega arith, lay_shorter _ _ _ _ _ _ _ c.in_ok-low-in-40.ensures c.requires)

pub returns-in_err-high-in-40 : goal.returns-in_err-high-in-40
returns-in_err-high-in-40 t c =
    rw c.from_residual-in_err-high-in-40.ensures
    (lay_high _ _ _ _ _ _ _ c.in_ok-low-in-40.ensures (search rules) c.if-left-eq0.false _ c.in_err-high-in-40.ensures)

pub returns-then-is_alike : goal.returns-then-is_alike
returns-then-is_alike t c =
    lay_alike _ _ _ _ _ _ _ c.in_ok-low-in-40.ensures (search rules) c.if-left-eq0.false _ _ c.in_ok-high-in-40.ensures (search rules)

pub returns-else-is_alike : goal.returns-else-is_alike
returns-else-is_alike t c =
    lay_apart _ _ _ _ _ _ _ c.in_ok-low-in-40.ensures (search rules) c.if-left-eq0.false _ _ c.in_ok-high-in-40.ensures _
    (search rules) c.join_halves.ensures

pub returns-in-66 : goal.returns-in-66
returns-in-66 t c = lay_leaf _ _ _ _ _ _ (search rules) c.in-66.is

pub returns-in_default : goal.returns-in_default
returns-in_default t c = lay_other _ _ _ _ _ _ (λ e. search rules) (λ e. search rules) (λ e. search rules)
