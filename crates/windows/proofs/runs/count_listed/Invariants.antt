-- `windows::runs::count_listed` meets its contract. The invariant: the runs counted and the runs left are all runs. Assumes nothing.
use Rattle.std.proofs.Common.{◌≡◌, ◌+◌, ◌-◌, ◌≤◌, length}
use Rattle.windows.specs.Steps.{runs_left}
use Rattle.windows.proofs.runs.count_listed.Given as goal

abbrev pub invariant-loop-run : goal.invariant-loop-run
invariant-loop-run l = (l.from ≤ length l.mask) × (l.count + length (runs_left l.listing l.mask l.from) ≡ length (runs_left l.listing l.mask 0)) × (l.count ≤ l.from)

abbrev pub decreases-loop-run : goal.decreases-loop-run
decreases-loop-run l = length l.mask - l.from
