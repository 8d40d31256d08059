-- `journal::mask::write_cells` meets its contract. Assumes nothing.
use mathlib.Core.Path.{◌≡◌}
use Prim.Native.Nat.{◌*◌, min}
use Rattle.buffers.specs.Lent.{filled}
use Rattle.journal.proofs.Cells.{cell_bit}
use Rattle.journal.proofs.mask.write_cells.Given as goal

abbrev pub invariant-loop-c : goal.invariant-loop-c
invariant-loop-c l = l.out ≡ filled (min (64 * l.c) l.cells) (cell_bit l.masks) l.initial.out
