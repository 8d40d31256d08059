-- `windows::listings::largest_severity` meets its contract. The invariant: `most` is the largest of the samples before i. Assumes nothing.
use Rattle.std.proofs.Common.{◌≡◌, ◌+◌, ◌-◌}
use Rattle.windows.specs.Windows.{largest_from}
use Rattle.windows.proofs.listings.largest_severity.Given as goal

abbrev pub invariant-loop-i : goal.invariant-loop-i
invariant-loop-i l = l.most ≡ largest_from l.severities l.first (l.i - (l.first + 1))
