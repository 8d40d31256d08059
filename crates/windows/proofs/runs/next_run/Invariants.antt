-- `windows::runs::next_run` meets its contract. The invariant: no run is open at `at`, and the runs left there are those left at `from`. Assumes
-- nothing.
use Rattle.std.proofs.Common.{◌≡◌, ◌-◌, ◌≤◌, length}
use Rattle.windows.specs.Steps.{runs_left}
use Rattle.windows.proofs.runs.next_run.Given as goal

abbrev pub invariant-loop-at : goal.invariant-loop-at
invariant-loop-at l = (l.from ≤ l.at) × (l.at ≤ length l.mask) × (runs_left l.listing l.mask l.at ≡ runs_left l.listing l.mask l.from)

abbrev pub decreases-loop-at : goal.decreases-loop-at
decreases-loop-at l = length l.mask - l.at
