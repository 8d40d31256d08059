-- `journal::hex::are_digits` meets its contract. Assumes nothing.
use mathlib.Core.Path.{◌≡◌}
use Rattle.journal.specs.Hex.{are_digits}
use Rattle.journal.proofs.hex.are_digits.Given as goal

abbrev pub invariant-loop-x : goal.invariant-loop-x
invariant-loop-x l = l.all ≡ are_digits l.bytes 0 l.x-index
