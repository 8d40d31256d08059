-- `journal::mask::write_bits` meets its contract. Assumes nothing.
use mathlib.Core.Path.{◌≡◌}
use Prim.Native.Nat.{◌/◌, ◌^◌}
use Rattle.buffers.specs.Lent.{filled}
use Rattle.journal.specs.Lines.{bit_of}
use Rattle.journal.proofs.mask.write_bits.Given as goal

abbrev pub invariant-loop-bit : goal.invariant-loop-bit
invariant-loop-bit l = (l.left ≡ l.word / 2 ^ l.bit-index) × (l.out ≡ filled l.bit-index (bit_of l.word) l.initial.out)
