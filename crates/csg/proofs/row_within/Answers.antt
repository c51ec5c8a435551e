-- The offset is judged first, then the coefficient of each axis.
use Rattle.std.proofs.Common.{◌≡◌, true, false, pos, nat_abs, leb, get_or, refl, rules}
use Rattle.std.proofs.lemmas.Iterator.{YieldsList-from_range, cases_from_all}
use Rattle.lemmas.proofs.Chains.{every_told}
use Rattle.universe.specs.Universe.{most_axes, offset_limit}
use Rattle.csg.proofs.Rows.{coefficient_within, offset_off, coefficients_told}
use Rattle.csg.proofs.row_within.Goals as goal

pub returns-then-not-offset_within : goal.returns-then-not-offset_within
returns-then-not-offset_within c =
    let row = c.args.row.now in
    let e : c.offset_within.result ≡ leb (nat_abs (get_or row 0 (pos 0))) offset_limit = search rules in
    offset_off c.args.universe row e c.if-not-offset_within.true

pub returns : goal.returns
returns c =
    let u = c.args.universe in
    let row = c.args.row.now in
    let e : c.offset_within.result ≡ leb (nat_abs (get_or row 0 (pos 0))) offset_limit = search rules in
    coefficients_told u row e c.if-not-offset_within.false
    (every_told (coefficient_within u row) most_axes _
    (cases_from_all _ _ _ (λ x. coefficient_within u row x ≡ true) (λ x. coefficient_within u row x ≡ false) c.all.ensures.ran
    (YieldsList-from_range 0 4 4 refl refl)
    (λ x q k. search rules)
    (λ x q k. search rules)))
