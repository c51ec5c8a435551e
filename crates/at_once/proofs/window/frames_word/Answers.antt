-- `frames_word` is all ones where all frames of the block are the window's, else the window's word.
use native.Mathlib.Omega.{arith}
use Rattle.at_once.proofs.Windows.{wide_some, frames_fit, all_frames}
use Rattle.at_once.proofs.window.frames_word.Goals as goal

pub overflow_sub-wide : goal.overflow_sub-wide
overflow_sub-wide c = wide_some c.requires

pub overflow_add-frame : goal.overflow_add-frame
overflow_add-frame c = record { fits = omega (arith, c.requires.inside) }

pub all_ones-requires : goal.all_ones-requires
all_ones-requires c = c.requires.halvings.few

pub returns-then-frame-wide : goal.returns-then-frame-wide
returns-then-frame-wide c =
    λ job. all_frames job c.args.first c.args.last c.if-first-frame.true c.if-frame-wide.true c.all_ones.ensures

pub window_word-requires : goal.window_word-requires
window_word-requires c = record { halvings = c.requires.halvings; longest_side_bound = frames_fit c.requires }

pub returns : goal.returns
returns c = λ job. c.window_word.ensures job.halvings
