-- `journal::hex::hex_value` meets its contract. Assumes nothing.
use mathlib.Core.Path.{◌≡◌}
use Rattle.journal.specs.Hex.{hex_value}
use Rattle.journal.proofs.hex.hex_value.Given as goal

abbrev pub invariant-loop-x : goal.invariant-loop-x
invariant-loop-x l = l.v ≡ hex_value l.digits 0 l.x-index
