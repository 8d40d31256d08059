-- `journal::calls::work` meets its contract. Assumes nothing.
use native.Mathlib.Omega.{arith}
use Prim.Native.Nat.{◌+◌}
use Rattle.solar_roll.specs.Plan.{lent}
use Rattle.journal.specs.Plan.{even_sweep}
use Rattle.journal.proofs.Along.{range_one}
use Rattle.journal.proofs.calls.work.Goals as goal

pub returns : goal.returns
returns c = let a = c.args in
    let s = even_sweep (lent a.plan.now) a.n in
    range_one s a.chunk a.journal.now a.used a.chunk _ _ _ (c.work_even.ensures (a.chunk + 1) (omega arith))
