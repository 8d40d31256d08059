-- `journal::calls::work_range` meets its contract. Assumes nothing.
use native.Mathlib.Omega.{arith}
use Rattle.journal.proofs.calls.work_range.Goals as goal
use Rattle.journal.proofs.calls.work_range.Goals.{then-from-to, else-from-to}

pub returns : goal.returns
returns c = c.work_even.ensures _ (elim c.if-from-to.branch [ then-from-to w ↦ omega arith | else-from-to w ↦ omega arith ])
