-- `write_block`: before a row, the columns of the rows before it are written. Assumes nothing.
use Prim.Native.Nat.{ℕ, ◌+◌, ◌-◌, ◌*◌, ◌≤◌, ◌<◌}
use mathlib.Core.Path.{◌≡◌, refl, sym, ap, ◌∙◌, subst}
use mathlib.Core.List.{List, []}
use native.Mathlib.Nat.{mul-le-mul_right, suc-mul}
use native.Mathlib.Omega.{arith}
use borrow.Author.Rules.{rules}
use lib.ListN.{length, get_or}
use Rattle.buffers.specs.Ranges.{tab}
use Rattle.buffers.specs.Lent.{put}
use Rattle.buffers.specs.Rows.{ColumnsWritten}
use Rattle.buffers.proofs.Lent.{filled_part}
use Rattle.buffers.proofs.Rows.{columns_none, columns_row}
use Rattle.solar_roll.specs.Plan.{lent, rows_of, times_of, direction_of, config_of}
use Rattle.solar_roll.specs.Roll.{body_axes}
use Rattle.solar_masks.proofs.cells.write_block.Goals as goal

pub loop-row-init : goal.loop-row-init
loop-row-init g c = (refl, λ d. columns_none _ _ _ _ _ d _)

-- the row's columns lie in the list
fits : (times rows row from n k length : ℕ) → row < rows → from + n ≤ times → k ≡ times → rows * times ≤ length → row * k + from + n ≤ length
fits times rows row from n k length h g e room = omega (arith, mul-le-mul_right times h, suc-mul row times, ap (λ (t : ℕ). row * t) e)

pub offset_bounds-entries-start : goal.offset_bounds-entries-start
offset_bounds-entries-start g c =
    let q : c.loop-row.row < rows_of (lent c.args.plan.now) = omega (arith, c.rows-row-end.ensures) in
    let room : rows_of (lent c.args.plan.now) * times_of (lent c.args.plan.now) ≤ length c.loop-row.entries = omega (arith, c.requires.0, c.loop-row.invariant.0) in
    let h = fits _ _ c.loop-row.row c.args.from (length c.args.units.now) c.times.result _ q c.requires.1 c.times.ensures room in
    let s : c.loop-row.row * c.times.result + c.args.from ≤ length c.loop-row.entries = omega (arith, h) in
    search rules

pub loop-row-preserved : goal.loop-row-preserved
loop-row-preserved g c =
    let a = c.args in
    let p = lent a.plan.now in
    let r = c.loop-row.row in
    let m = c.loop-row.entries in
    let n = length a.units.now in
    let k = c.times.result in
    let q : r < rows_of p = omega (arith, c.rows-row-end.ensures) in
    let room : rows_of p * times_of p ≤ length m = omega (arith, c.requires.0, c.loop-row.invariant.0) in
    let entry = g.C.Cells.entry a.cells.now in
    let G = λ (t : ℕ). entry c.body_axes.result c.row_config.result.tolerance_deg (get_or a.units.now t []) in
    let F = λ (r j : ℕ). entry (body_axes (direction_of p r)) (config_of p r).tolerance_deg (get_or a.units.now (j - a.from) []) in
    let e : (t : ℕ) → t < n → G t ≡ F r (a.from + t) =
    λ t l. let i : a.from + t - a.from ≡ t = omega arith in simp (c.body_axes.ensures, c.direction.ensures, c.row_config.ensures, i) in
    let w = filled_part G (r * k + a.from) n m c.write_row.new.entries c.write_row.ensures
    ∙ ap (λ (t : ℕ). put (r * t + a.from) (tab n G) m) c.times.ensures in
    let step : (d : _) → ColumnsWritten (rows_of p) (times_of p) (r + 1) a.from n F d a.entries.now _ =
    λ d. subst (λ (l : List _). ColumnsWritten (rows_of p) (times_of p) (r + 1) a.from n F d a.entries.now l) (sym w)
    (columns_row (rows_of p) (times_of p) a.from n F d r G m q c.requires.1 room a.entries.now e (c.loop-row.invariant.1 d)) in
    ((step (G 0)).same, step)

pub returns : goal.returns
returns g c = λ d.
    let a = c.args in
    let p = lent a.plan.now in
    let e : c.loop-row.row ≡ rows_of p = omega (arith, c.rows-row-end.ensures) in
    subst (λ (n : ℕ). ColumnsWritten (rows_of p) (times_of p) n a.from (length a.units.now) (λ r j. g.C.Cells.entry a.cells.now (body_axes (direction_of p r)) (config_of p r).tolerance_deg (get_or a.units.now (j - a.from) [])) d a.entries.now c.loop-row.entries) e (c.loop-row.invariant.1 d)
