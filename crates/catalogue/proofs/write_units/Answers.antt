-- `catalogue::write_units`: before position i, the vectors of those before it stand. Assumes nothing.
use mathlib.Core.Path.{◌≡◌, ◌∙◌}
use native.Mathlib.Omega.{arith}
use lib.ListN.{length}
use Rattle.buffers.proofs.Lent.{filled_zero}
use Rattle.catalogue.specs.Catalogue.{vector_of}
use Rattle.catalogue.proofs.Numbers.{stored}
use Rattle.catalogue.proofs.write_units.Goals as goal

pub loop-i-init : goal.loop-i-init
loop-i-init c = filled_zero _ _

pub loop-i-preserved : goal.loop-i-preserved
unfolding vector_of
loop-i-preserved c =
    let a = c.args in
    let at = c.loop-i in
    stored a.ras.now a.decs.now at.i _ at.out a.out.now c.copy_from_slice.new.self (omega arith) at.invariant (omega arith) (c.copy_from_slice.ensures.after ∙ c.radec_to_unit-unit.ensures)

pub returns : goal.returns
returns c =
    let h : c.loop-i.i ≡ length c.args.ras.now = omega arith in
    c.loop-i.invariant ∙ rw h
