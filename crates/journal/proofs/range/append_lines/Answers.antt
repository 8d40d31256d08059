use Prim.Native.Nat.{◌<◌}
-- `journal::range::append_lines` meets its contract. Assumes nothing.
use native.Mathlib.Omega.{arith}
use Rattle.journal.proofs.range.append_lines.Goals as goal

pub append_by_units-requires : goal.append_by_units-requires
append_by_units-requires c = (rw (← c.times.ensures) (c.pays.ensures c.if-pays.true), c.requires)

pub returns-then-pays : goal.returns-then-pays
returns-then-pays c = c.append_by_units.ensures

pub append_swept-requires : goal.append_swept-requires
append_swept-requires c = (λ h. let none : ◌<◌ 0 0 = h in absurd (omega arith), c.requires)

pub returns : goal.returns
returns c = c.append_swept.ensures
