-- `add_each` adds at each place of a run: those before the one at hand have more, those from it on are as they were.
use Rattle.std.proofs.Common.{◌≡◌, ℕ, ◌+◌, ◌<◌, ◌≤◌, length, get_or}
use Rattle.report.proofs.row.add_each.Given as goal

abbrev pub invariant-loop-count : goal.invariant-loop-count
invariant-loop-count l = record {
  long : length l.count-items ≡ length l.initial.count-items;
  done : (k : ℕ) → k < l.count-index → get_or l.count-items k 0 ≡ get_or l.initial.count-items k 0 + l.each;
  to_come : (k : ℕ) → l.count-index ≤ k → get_or l.count-items k 0 ≡ get_or l.initial.count-items k 0;
}
