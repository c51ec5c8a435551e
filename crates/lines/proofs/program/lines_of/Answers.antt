-- What was written from the first place on is the front of the array.
use Rattle.lines.proofs.Appended.{appended_as, appended_front}
use Rattle.lines.proofs.program.lines_of.Goals as goal

pub returns-clause-out_after : goal.returns-clause-out_after
returns-clause-out_after c = (appended_front (appended_as c.judge_file.ensures c.write_lines.ensures)).1
