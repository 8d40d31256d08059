-- `write_row`: before a tile, the entries of the cells before it stand. Assumes nothing.
use Prim.Native.Nat.{ℕ, ◌+◌, ◌≤◌}
use mathlib.Core.Path.{◌≡◌, ap, ◌∙◌}
use mathlib.Core.List.{[]}
use native.Mathlib.Omega.{arith}
use lib.ListN.{length, get_or}
use Rattle.buffers.specs.Lent.{filled}
use Rattle.buffers.proofs.Lent.{filled_zero}
use Rattle.solar_masks.proofs.Tiles.{tile_to}
use Rattle.solar_masks.proofs.cells.write_row.Goals as goal

pub loop-from-init : goal.loop-from-init
loop-from-init g c = (omega arith, filled_zero _ _)

pub loop-from-preserved : goal.loop-from-preserved
loop-from-preserved g c =
    let at = c.loop-from in
    let a = c.args in
    let e : c.min-to.result ≡ at.from + 64 = omega (arith, c.min-to.ensures) in
    let up : at.from ≤ c.min-to.result = omega (arith, e) in
    let within : c.min-to.result ≤ length a.units.now = omega (arith, c.min-to.ensures) in
    let f = g.C.Cells.entry a.cells.now a.axes a.tolerance_deg in (
      omega arith,
      tile_to a.units.now at.from c.min-to.result f [] a.entries.now at.entries _ up within c.requires at.invariant.1 c.write.ensures
          ∙ ap (λ (n : ℕ). filled n (λ k. f (get_or a.units.now k [])) a.entries.now) e,
    )

pub returns : goal.returns
returns g c = let e : c.loop-from.from ≡ length c.args.units.now = omega arith in
    c.loop-from.invariant.1 ∙ rw e

-- after the last tile
pub returns-2 : goal.returns-2
returns-2 g c =
    let at = c.loop-from in
    let a = c.args in
    let e : c.min-to.result ≡ length a.units.now = omega (arith, c.min-to.ensures) in
    let up : at.from ≤ c.min-to.result = omega (arith, e) in
    let within : c.min-to.result ≤ length a.units.now = omega (arith, e) in
    let f = g.C.Cells.entry a.cells.now a.axes a.tolerance_deg in
    tile_to a.units.now at.from c.min-to.result f [] a.entries.now at.entries _ up within c.requires at.invariant.1 c.write.ensures
    ∙ ap (λ (n : ℕ). filled n (λ k. f (get_or a.units.now k [])) a.entries.now) e
