-- `write_cells`: before a block of times, the columns of the times before it are written. Assumes nothing.
use Prim.Native.Nat.{ℕ, ◌+◌, ◌-◌, min}
use mathlib.Core.Path.{◌≡◌, refl, ap, ◌∙◌, subst}
use mathlib.Core.List.{[]}
use native.Mathlib.Omega.{arith}
use Rattle.buffers.specs.Rows.{ColumnsWritten}
use Rattle.buffers.proofs.Rows.{columns_zero, columns_all}
use Rattle.solar_roll.specs.Plan.{lent, rows_of, times_of, direction_of, config_of, sun_at}
use Rattle.solar_roll.specs.Roll.{body_axes}
use Rattle.solar_roll.specs.Vectors.{Vector}
use Rattle.solar_masks.proofs.Blocks.{columns_next}
use Rattle.solar_masks.proofs.cells.write_cells.Goals as goal

pub loop-from-init : goal.loop-from-init
loop-from-init g c = (omega arith, refl, refl, λ d. columns_zero _ _ _ d _ _)

pub loop-from-preserved : goal.loop-from-preserved
unfolding sun_at
loop-from-preserved g c =
    let a = c.args in
    let p = lent a.plan.now in
    let s = c.loop-from in
    let f = λ (r : ℕ) (u : Vector). g.C.Cells.entry a.cells.now (body_axes (direction_of p r)) (config_of p r).tolerance_deg u in
    let e = c.min-count.ensures ∙ ap (λ (t : ℕ). min 2048 (t - s.from)) c.times-times.ensures in
    let i : s.from + c.min-count.result ≡ s.from + 2048 = omega (arith, c.min-count.ensures) in
    let step : (d : _) → ColumnsWritten (rows_of p) (times_of p) (rows_of p) 0 (s.from + 2048) (λ r j. f r (sun_at p j)) d a.entries.now c.write_block.new.entries =
    λ d. subst (λ (n : ℕ). ColumnsWritten (rows_of p) (times_of p) (rows_of p) 0 n (λ r j. f r (sun_at p j)) d a.entries.now c.write_block.new.entries) i
    (columns_next p f s.from c.min-count.result s.units c.sun_units.new.units a.entries.now s.entries c.write_block.new.entries s.invariant.1 e c.sun_units.ensures s.invariant.3 c.write_block.ensures d) in
    (omega (arith, c.times-times.ensures), c.sun_units.auto.units ∙ s.invariant.1, (step (f 0 [])).same, step)

pub returns : goal.returns
returns g c =
    let a = c.args in
    let p = lent a.plan.now in
    let f = λ (r j : ℕ). g.C.Cells.entry a.cells.now (body_axes (direction_of p r)) (config_of p r).tolerance_deg (sun_at p j) in
    let d = f 0 0 in
    let e : c.loop-from.from ≡ times_of p = omega (arith, c.times-times.ensures, c.loop-from.invariant.0) in
    columns_all (rows_of p) (times_of p) f d a.entries.now c.loop-from.entries c.requires
    (subst (λ (n : ℕ). ColumnsWritten (rows_of p) (times_of p) (rows_of p) 0 n f d a.entries.now c.loop-from.entries) e (c.loop-from.invariant.3 d))

-- after the last block
pub returns-2 : goal.returns-2
unfolding sun_at
returns-2 g c =
    let a = c.args in
    let p = lent a.plan.now in
    let s = c.loop-from in
    let new = c.write_block.new.entries in
    let f = λ (r : ℕ) (u : Vector). g.C.Cells.entry a.cells.now (body_axes (direction_of p r)) (config_of p r).tolerance_deg u in
    let F = λ (r j : ℕ). f r (sun_at p j) in
    let d = F 0 0 in
    let e = c.min-count.ensures ∙ ap (λ (t : ℕ). min 2048 (t - s.from)) c.times-times.ensures in
    let i : s.from + c.min-count.result ≡ times_of p = omega (arith, c.min-count.ensures, c.times-times.ensures) in
    columns_all (rows_of p) (times_of p) F d a.entries.now new c.requires
    (subst (λ (n : ℕ). ColumnsWritten (rows_of p) (times_of p) (rows_of p) 0 n F d a.entries.now new) i
    (columns_next p f s.from c.min-count.result s.units c.sun_units.new.units a.entries.now s.entries new s.invariant.1 e c.sun_units.ensures s.invariant.3 c.write_block.ensures d))
