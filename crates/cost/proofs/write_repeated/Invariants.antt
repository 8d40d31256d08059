-- `cost::write_repeated`: before place k, the places before it are written. Assumes nothing.
use Prim.Native.Nat.{◌%◌}
use mathlib.Core.Path.{◌≡◌}
use lib.ListN.{length, get_or}
use lib.Ieee.{nan}
use Rattle.buffers.specs.Lent.{filled}
use Rattle.cost.proofs.write_repeated.Given as goal

abbrev pub invariant-loop-k : goal.invariant-loop-k
invariant-loop-k l = l.place-items ≡ filled l.k (λ j. get_or l.pattern (j % length l.pattern) nan) l.initial.place-items
