-- `windows::Spans::skip_ended` meets its contract. The invariant: the windows passed ended before the time. Assumes nothing.
use Rattle.std.proofs.Common.{◌≡◌, get_or, drop, pos}
use Rattle.windows.specs.Expand.{skip}
use Rattle.windows.specs.Steps.{spans_of}
use Rattle.windows.proofs.Spans.skip_ended.Given as goal

abbrev pub invariant-loop-j : goal.invariant-loop-j
invariant-loop-j l = skip (get_or l.times l.i (pos 0)) (drop l.j (spans_of l.self)) ≡ skip (get_or l.times l.i (pos 0)) (drop l.from (spans_of l.self))
