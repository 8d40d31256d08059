-- `journal::range::append_swept` meets its contract. The loop keeps `Along`: what the rest of the range comes to from here is what the whole range
-- comes to. Assumes nothing.
use Prim.Native.Nat.{◌-◌}
use Rattle.solar_roll.specs.Plan.{lent}
use Rattle.journal.specs.Plan.{sweep_of}
use Rattle.journal.proofs.Along.{Along}
use Rattle.journal.proofs.range.append_swept.Given as goal

abbrev pub invariant-loop : goal.invariant-loop
invariant-loop l = Along (sweep_of (lent l.plan) l.rolls 0) l.from l.limit l.seen l.initial.journal l.used l.chunk (l.limit - l.counter) l.journal l.at
