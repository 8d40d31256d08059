-- `catalogue::write_units`: before position i, the vectors of those before it stand. Assumes nothing.
use Prim.Native.Nat.{◌*◌}
use mathlib.Core.Path.{◌≡◌}
use Rattle.buffers.specs.Lent.{filled}
use Rattle.catalogue.specs.Catalogue.{catalogue_number}
use Rattle.catalogue.proofs.write_units.Given as goal

abbrev pub invariant-loop-i : goal.invariant-loop-i
invariant-loop-i l = l.out ≡ filled (3 * l.i) (catalogue_number l.ras l.decs) l.initial.out
