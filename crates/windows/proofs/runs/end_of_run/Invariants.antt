-- `windows::runs::end_of_run` meets its contract. The invariant: the samples passed, and those that lead the rest, are those that lead it from the start. Assumes nothing.
use Rattle.std.proofs.Common.{◌≡◌, ℕ, ◌+◌, ◌-◌, ◌≤◌, eqb, length, drop}
use Rattle.windows.specs.Steps.{leading}
use Rattle.windows.proofs.runs.end_of_run.Given as goal

abbrev pub invariant-loop-i : goal.invariant-loop-i
invariant-loop-i l = (l.i ≤ length l.mask) × (l.i + leading (λ (b : ℕ). eqb b l.v) (drop l.i l.mask) ≡ l.from + leading (λ (b : ℕ). eqb b l.v) (drop l.from l.mask))

abbrev pub decreases-loop-i : goal.decreases-loop-i
decreases-loop-i l = length l.mask - l.i
