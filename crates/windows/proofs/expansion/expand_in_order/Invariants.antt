-- `windows::expansion::expand_in_order` meets its contract. The invariant: i marks are written, and the rest comes from the windows from number j on. Assumes
-- nothing.
use Rattle.std.proofs.Common.{◌≡◌, ℕ, ◌≤◌, List, ◌++◌, length, drop}
use Rattle.buffers.specs.Lent.{over}
use Rattle.windows.specs.Expand.{expanded_in_order}
use Rattle.windows.specs.Steps.{spans_of}
use Rattle.windows.proofs.expansion.expand_in_order.Given as goal

abbrev pub invariant-loop-i : goal.invariant-loop-i
invariant-loop-i l = (l.j ≤ length l.spans.last.now) × (done : List ℕ) × (length done ≡ l.i) × (l.mask ≡ over done l.initial.mask) × (done ++ expanded_in_order (drop l.i l.times) (drop l.j (spans_of l.spans)) ≡ expanded_in_order l.times (spans_of l.spans))
