-- `windows::Spans::is_among` meets its contract. The invariant: the windows from number j on decide. Assumes nothing.
use Rattle.std.proofs.Common.{◌≡◌, get_or, drop, pos}
use Rattle.windows.specs.Expand.{in_some}
use Rattle.windows.specs.Steps.{spans_of}
use Rattle.windows.proofs.Spans.is_among.Given as goal

abbrev pub invariant-loop-j : goal.invariant-loop-j
invariant-loop-j l = in_some (get_or l.times l.i (pos 0)) (drop l.j (spans_of l.self)) ≡ in_some (get_or l.times l.i (pos 0)) (spans_of l.self)
