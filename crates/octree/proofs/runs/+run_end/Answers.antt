-- `run_end` gives the place past a run: past its second half, or past one octree; a `P` is the run of its eight sons.
use Rattle.std.proofs.Common.{rules, ◌≡◌, ◌≤◌, ◌-◌, ◌∙◌, ℕ, Option, None, length, get_or, sym, arith}
use Rattle.std.proofs.lemmas.Grind.{common_steps}
use Rattle.octree.proofs.Imports.{end_first, end_second, end_past, end_deep, end_parted, end_full, end_empty, end_other}
use Rattle.octree.proofs.runs.+run_end.Goals as goal

pub returns-in_err-middle : goal.returns-in_err-middle
returns-in_err-middle t c =
    let none : ◌≡◌ {A = Option ℕ} c.from_residual.result None = search rules in
    none ∙ sym (end_first _ _ _ _ c.if-inside-ne0.true (sym c.in_err-middle.was ∙ c.run_end.ensures))

pub returns-then-inside-ne0 : goal.returns-then-inside-ne0
returns-then-inside-ne0 t c =
    c.run_end-then-inside-ne0.ensures
    ∙ sym (end_second _ _ _ _ c.if-inside-ne0.true c.in_ok-middle.middle (sym c.in_ok-middle.was ∙ c.run_end.ensures))

pub returns-in_err-get : goal.returns-in_err-get
returns-in_err-get t c =
    let none : ◌≡◌ {A = Option ℕ} c.from_residual-in_err-get.result None = search rules in
    let past : length c.args.octree.now ≤ c.args.at = search rules in
    none ∙ sym (end_past _ _ _ _ c.if-inside-ne0.false past)

pub returns-in_err-checked_sub-in-80 : goal.returns-in_err-checked_sub-in-80
returns-in_err-checked_sub-in-80 t c =
    let none : ◌≡◌ {A = Option ℕ} c.from_residual-in_err-checked_sub-in-80.result None = search rules in
    let symbol : get_or c.args.octree.now c.args.at 0 ≡ 80 = grind (arith, common_steps) in
    let left : c.args.left ≡ 0 = grind (arith, common_steps) in
    none ∙ sym (end_deep _ _ _ _ c.if-inside-ne0.false symbol left)

pub returns-in_ok-checked_sub-in-80 : goal.returns-in_ok-checked_sub-in-80
returns-in_ok-checked_sub-in-80 t c =
    let symbol : get_or c.args.octree.now c.args.at 0 ≡ 80 = grind (arith, common_steps) in
    let left : 1 ≤ c.args.left = grind (arith, common_steps) in
    let below : c.in_ok-checked_sub-in-80.field-0 ≡ c.args.left - 1 = grind (arith, common_steps) in
    c.run_end-in-80.ensures ∙ rw below (sym (end_parted _ _ _ _ c.if-inside-ne0.false symbol left))

pub returns-in_default : goal.returns-in_default
returns-in_default t c =
    let symbol : get_or c.args.octree.now c.args.at 0 ≡ c.in_ok-get.field-0.now = grind (arith, common_steps) in
    sym (end_other _ _ _ _ c.if-inside-ne0.false (λ e. omega arith) (λ e. omega arith) (λ e. omega arith))

pub returns-in-70 : goal.returns-in-70
returns-in-70 t c =
    let symbol : get_or c.args.octree.now c.args.at 0 ≡ c.in_ok-get.field-0.now = grind (arith, common_steps) in
    let full = end_full c.args.octree.now c.args.left c.args.inside c.args.at c.if-inside-ne0.false in
    let empty = end_empty c.args.octree.now c.args.left c.args.inside c.args.at c.if-inside-ne0.false in
    grind (arith, common_steps, full, empty)
