-- `windows::seconds::sum_seconds` meets its contract. The invariant: the total is the sum of the first k windows. Assumes nothing.
use Rattle.windows.proofs.Durations.{Summed}
use Rattle.windows.proofs.seconds.sum_seconds.Given as goal

abbrev pub invariant-loop-k : goal.invariant-loop-k
invariant-loop-k l = Summed l.spans.first.now l.spans.last.now l.k l.total
