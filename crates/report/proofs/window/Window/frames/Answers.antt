-- `frames` tells the window's length, since its ends are in order.
use Rattle.std.proofs.Common.{rules}
use Rattle.report.proofs.Rows.{ends_order, ends_fit, frames_are}
use Rattle.report.proofs.window.Window.frames.Goals as goal

pub overflow_sub-result : goal.overflow_sub-result
overflow_sub-result c = ends_order c.args.self

pub overflow_add-result : goal.overflow_add-result
overflow_add-result c = let fits = ends_fit c.args.self in search rules

pub returns : goal.returns
returns c = frames_are c.args.self
