-- `sweep_row`: before cell k, mask and probes are those of the cells before it; before roll s of it, it is violated at all rolls before s. Assumes nothing.
use Prim.Native.Nat.{◌≤◌, ◌<◌}
use mathlib.Core.Path.{◌≡◌, sym, ap, ◌∙◌}
use mathlib.Core.List.{List, []}
use native.Mathlib.Nat.{mul-le-mul}
use native.Mathlib.Omega.{arith}
use lib.ListN.{length, get_or}
use lib.Ieee.{Float, nan}
use Rattle.buffers.proofs.Lent.{get_or_filled}
use Rattle.buffers.proofs.Ranges.{all_zero, all_next}
use Rattle.solar_roll.specs.Roll.{roll_deg_in}
use Rattle.solar_roll.specs.Cell.{roll_in}
use Rattle.solar_roll.specs.Plan.{most_samples}
use Rattle.roll_sweep.proofs.SweptCells.{upto_zero, upto_whole, upto_le, upto_clear, upto_marked}
use Rattle.roll_sweep.proofs.chunk.sweep_row.Goals as goal
use Rattle.roll_sweep.proofs.chunk.sweep_row.Invariants.{row_violated}
use Rattle.roll_sweep.proofs.chunk.sweep_row.Goals.{After-violated}

-- what `violated` answers says so
at_sample : (c : After-violated) →
    let a = c.args in
    row_violated a.axes a.units.now a.panel a.tolerance_deg a.rolls.now c.cells.k c.rolls.roll-index ≡ c.violated.result
unfolding roll_in
at_sample c =
    let k = c.cells.k in
    let best : get_or c.rolls_deg_in.new.rolls k nan ≡ roll_deg_in c.args.axes (get_or c.args.units.now k []) c.args.panel.angle =
    ap (λ (l : List Float). get_or l k nan) c.rolls_deg_in.ensures ∙ get_or_filled _ _ _ nan k (omega arith) in
    rw (← best, ← c.free_or_at-cell.ensures) (sym c.violated.ensures)

pub cells-init : goal.cells-init
cells-init c = upto_zero _ _

pub rolls-init : goal.rolls-init
rolls-init c = (omega arith, all_zero _)

pub overflow_add-probes : goal.overflow_add-probes
overflow_add-probes c =
    let k64 : c.cells.k ≤ 64 = omega arith in
    let few : length c.args.rolls.now ≤ most_samples = omega arith in
    record { fits = omega (arith, upto_le _ _ c.cells.invariant, mul-le-mul k64 few) }

pub cells-preserved-then-not-violated : goal.cells-preserved-then-not-violated
cells-preserved-then-not-violated c =
    let clear = at_sample (goal.at.cells-preserved-then-not-violated c).After-violated ∙ c.if-not-violated.true in
    upto_clear _ _ c.rolls.roll-index _ c.cells.invariant c.rolls-test.true c.rolls.invariant.1 clear (omega arith)

pub rolls-preserved : goal.rolls-preserved
rolls-preserved c =
    let met = at_sample (goal.at.rolls-preserved c).After-violated ∙ c.if-not-violated.false in
    (omega arith, all_next _ _ c.rolls.invariant.1 met)

pub cells-preserved : goal.cells-preserved
cells-preserved c =
    let k64 : c.cells.k < 64 = omega arith in
    let h : c.rolls.roll-index ≡ length c.args.rolls.now = omega arith in
    upto_marked _ _ _ c.cells.invariant k64 (rw h at c.rolls.invariant.1) (omega arith)

pub returns : goal.returns
returns c =
    let h : c.cells.k ≡ length c.args.units.now = omega arith in
    upto_whole _ _ c.cells.invariant ∙ rw h
