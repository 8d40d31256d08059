-- `journal::mask::write_cells` meets its contract. Assumes nothing.
use mathlib.Core.Path.{◌≡◌, refl, ap, ◌∙◌}
use Prim.Native.Nat.{ℕ, ◌-◌, ◌*◌, min}
use native.Mathlib.Omega.{arith}
use lib.ListN.{length}
use Rattle.buffers.specs.Lent.{filled}
use Rattle.buffers.proofs.Lent.{filled_zero}
use Rattle.journal.proofs.Cells.{cell_bit, filled_all, cells_step}
use Rattle.journal.proofs.mask.write_cells.Goals as goal

pub loop-c-init : goal.loop-c-init
loop-c-init c = let e : 0 ≡ min (64 * 0) (length c.args.out.now) = omega arith in
    filled_zero (cell_bit c.args.masks.now) c.args.out.now ∙ ap (λ (n : ℕ). filled n (cell_bit c.args.masks.now) c.args.out.now) e

pub loop-c-preserved : goal.loop-c-preserved
loop-c-preserved c = let p = c.loop-c in
    cells_step p.c _ (length c.args.out.now) c.args.masks.now c.args.out.now p.out c.write_bits.new.out refl (omega arith) (ap (λ (n : ℕ). n - 64 * p.c) c.min-end.ensures) p.invariant c.write_bits.ensures

pub returns : goal.returns
returns c = let a = c.args in
    let e : min (64 * c.loop-c.c) (length a.out.now) ≡ length a.out.now = omega arith in
    c.loop-c.invariant ∙ ap (λ (n : ℕ). filled n (cell_bit a.masks.now) a.out.now) e ∙ filled_all (cell_bit a.masks.now) (length a.out.now) a.out.now (omega arith)
