-- `windows::runs::count_starts` meets its contract. The invariant: the start at sample 0, if there is one, those counted, and those that are left are all
-- starts. Assumes nothing.
use Rattle.std.proofs.Common.{◌≡◌, ◌+◌, true, false, ◌&&◌}
use Rattle.buffers.specs.Ranges.{flag}
use Rattle.windows.specs.Runs.{samples_are}
use Rattle.windows.specs.Steps.{starts}
use Rattle.windows.proofs.NextRun.{marked_at, starts_left}
use Rattle.windows.proofs.runs.count_starts.Given as goal

abbrev pub invariant-loop-i : goal.invariant-loop-i
invariant-loop-i l = starts false (samples_are 1 l.mask) ≡ flag (marked_at l.mask 0 && true) + (l.count + starts_left l.mask l.i)
