-- `sweep_cells`: before cell k, where a row's part begins, mask and probes are those of the cells before it. Assumes nothing.
use Prim.Native.Nat.{ℕ, ◌+◌, ◌-◌, ◌*◌, ◌/◌, ◌%◌, ◌^◌, ◌≤◌, ◌<◌, min}
use mathlib.Core.Path.{◌≡◌, sym, ap, ◌∙◌}
use native.Mathlib.Nat.{mul-le-mul, mod-lt}
use native.Mathlib.Omega.{arith}
use lib.ListN.{length}
use lib.Bits.{bit_or}
use Rattle.solar_roll.specs.Roll.{panel_of}
use Rattle.solar_roll.specs.Plan.{Plan, lent, row_panel, row_config, most_samples}
use Rattle.solar_roll.proofs.Cells.{one_panel}
use Rattle.roll_sweep.specs.Chunk.{swept_by}
use Rattle.roll_sweep.proofs.SweptCells.{Upto, upto_zero, upto_whole, upto_le, upto_part}
use Rattle.roll_sweep.proofs.Cells.{row_swept}
use Rattle.roll_sweep.proofs.chunk.sweep_cells.Goals as goal
use Rattle.roll_sweep.proofs.chunk.sweep_cells.Invariants.{nth_violated}
use Rattle.roll_sweep.proofs.chunk.sweep_cells.Goals.{After-min-count, After-sweep_row-part}

-- the part of a row that is swept together
record Part (i times table k cells m : ℕ) : Type 0 where
  pub more : 0 < m
  pub within : k + m ≤ cells
  pub in_row : i % times + m ≤ times
  pub in_table : i % table + m ≤ table
  pub few : k + m ≤ 64

part : (i times table k cells m : ℕ) → 0 < times → 0 < table → k < cells → cells ≤ 64 → m ≡ min (min (times - i % times) (cells - k)) (table - i % table)
    → Part i times table k cells m
part i times table k cells m a b d e h =
    let u = mod-lt i a in
    let v = mod-lt i b in
    record { more = omega arith; within = omega arith; in_row = omega arith; in_table = omega arith; few = omega arith }

-- the same at a place of the loop
part_at : (c : After-min-count) →
    let a = c.args in
    let k = c.loop-k.k in
    Part (a.first + k) a.times (length a.units.now) k a.cells c.min-count.result
part_at c = part _ _ _ _ _ _ (omega arith) (omega arith) (omega arith) (omega arith) (omega arith)

-- mask and probes with the row's part
stepped : (c : After-sweep_row-part) →
    let a = c.args in
    let at = c.loop-k in
    let m = c.min-count.result in
    Upto (length a.rolls.now) (nth_violated (lent a.plan.now) a.times a.units.now a.rolls.now a.first)
    (at.k + m) (bit_or at.mask ((c.sweep_row-part.result.mask * 2 ^ at.k) % 2 ^ 64)) (at.probes + c.sweep_row-part.result.probes)
unfolding row_config
stepped c =
    let a = c.args in
    let at = c.loop-k in
    let m = c.min-count.result in
    let h = part (a.first + at.k) a.times (length a.units.now) at.k a.cells m (omega arith) (omega arith) (omega arith) (omega arith) (omega arith) in
    let start : ℕ = (a.first + at.k) % length a.units.now in
    let z : at.k + m - at.k ≡ m = omega arith in
    let p : Plan = lent a.plan.now in
    let row : ℕ = (a.first + at.k) / a.times in
    let panel-is : c.panel_at-panel.result ≡ panel_of (row_panel p.panels row) =
    c.panel_at-panel.ensures ∙ ap panel_of (one_panel p.panels (a.first / a.times) row) in
    upto_part _ _ (at.k + m) c.sweep_row-part.result at.invariant.1 (omega arith) h.few
    (c.sweep_row-part.ensures
    ∙ rw (c.body_axes-axes.ensures, c.direction.ensures, c.row_config-settings.ensures, panel-is)
    (row_swept p.targets p.tolerances p.configured p.panels a.rolls.now a.units.now a.times a.first at.k m (start + m - start) (omega arith) h.in_row h.in_table)
    ∙ ap (λ (w : ℕ). swept_by w (length a.rolls.now) (λ j. nth_violated (lent a.plan.now) a.times a.units.now a.rolls.now a.first (at.k + j))) (sym z))

pub loop-k-init : goal.loop-k-init
loop-k-init c = (omega arith, upto_zero _ _)

pub overflow_sub-left : goal.overflow_sub-left
overflow_sub-left c = let a = c.args in
    let pos : 0 < a.times = omega arith in
    omega (arith, mod-lt (a.first + c.loop-k.k) pos)

pub overflow_sub-units : goal.overflow_sub-units
overflow_sub-units c = let a = c.args in
    let some : 0 < length a.units.now = omega arith in
    omega (arith, mod-lt (a.first + c.loop-k.k) some)

pub overflow_add-start-in-loop-k : goal.overflow_add-start-in-loop-k
overflow_add-start-in-loop-k c = omega (arith, (part_at (goal.at.overflow_add-start-in-loop-k c).After-min-count).in_table)

pub offset_bounds-units-start : goal.offset_bounds-units-start
offset_bounds-units-start c = omega (arith, (part_at (goal.at.offset_bounds-units-start c).After-min-count).in_table)

pub slice_bounds-sweep_row-start : goal.slice_bounds-sweep_row-start
slice_bounds-sweep_row-start c = omega (arith, (part_at (goal.at.slice_bounds-sweep_row-start c).After-min-count).in_table)

pub slice_bounds-sweep_row-end : goal.slice_bounds-sweep_row-end
slice_bounds-sweep_row-end c = omega (arith, (part_at (goal.at.slice_bounds-sweep_row-end c).After-min-count).in_table)

pub overflow_shl-mask : goal.overflow_shl-mask
overflow_shl-mask c = let h = part_at (goal.at.overflow_shl-mask c).After-min-count in
    let k64 : c.loop-k.k < 64 = omega (arith, h.few, h.more) in
    k64

pub overflow_add-probes : goal.overflow_add-probes
overflow_add-probes c = let a = c.args in
    let h = part_at (goal.at.overflow_add-probes c).After-min-count in
    let u = stepped (goal.at.overflow_add-probes c).After-sweep_row-part in
    let few : length a.rolls.now ≤ most_samples = c.requires.1 in
    record { fits = omega (arith, upto_le _ _ u, mul-le-mul h.few few) }

pub overflow_add-k : goal.overflow_add-k
overflow_add-k c = omega (arith, (part_at (goal.at.overflow_add-k c).After-min-count).few)

pub loop-k-smaller : goal.loop-k-smaller
loop-k-smaller c = omega (arith, (part_at (goal.at.loop-k-smaller c).After-min-count).more, (part_at (goal.at.loop-k-smaller c).After-min-count).within)

pub loop-k-preserved : goal.loop-k-preserved
loop-k-preserved c = ((part_at (goal.at.loop-k-preserved c).After-min-count).within, stepped (goal.at.loop-k-preserved c).After-sweep_row-part)

pub returns : goal.returns
returns c = let h : c.loop-k.k ≡ c.args.cells = omega arith in
    upto_whole _ _ c.loop-k.invariant.1 ∙ rw h
