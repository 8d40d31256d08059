-- `windows::expansion::expand_reordered` meets its contract. The invariant: i marks are written, and the rest is to come. Assumes nothing.
use Rattle.std.proofs.Common.{◌≡◌, ℕ, List, ◌++◌, length, drop}
use Rattle.buffers.specs.Lent.{over}
use Rattle.windows.specs.Expand.{expanded_reordered}
use Rattle.windows.specs.Steps.{spans_of}
use Rattle.windows.proofs.expansion.expand_reordered.Given as goal

abbrev pub invariant-loop-i : goal.invariant-loop-i
invariant-loop-i l = (done : List ℕ) × (length done ≡ l.i) × (l.mask ≡ over done l.initial.mask) × (done ++ expanded_reordered (drop l.i l.times) (spans_of l.spans) ≡ expanded_reordered l.times (spans_of l.spans))
