-- `journal::mask::write_bits` meets its contract. Assumes nothing.
use mathlib.Core.List.{List}
use mathlib.Core.Path.{◌≡◌, ap, ◌∙◌}
use Prim.Native.Nat.{ℕ, ◌%◌}
use native.Mathlib.Omega.{arith}
use lib.ListN.{length, set}
use Rattle.buffers.specs.Lent.{filled}
use Rattle.buffers.proofs.Lent.{filled_zero, filled_next}
use Rattle.journal.specs.Lines.{bit_of}
use Rattle.journal.proofs.Cells.{half_next, filled_all}
use Rattle.journal.proofs.mask.write_bits.Goals as goal

pub loop-bit-init : goal.loop-bit-init
loop-bit-init c = let a = c.args in (omega arith, filled_zero (bit_of a.word) a.out.now)

pub loop-bit-preserved : goal.loop-bit-preserved
loop-bit-preserved c = let a = c.args in
    let p = c.loop-bit in (
      half_next a.word p.left p.bit-index p.invariant.0,
      ap (λ (l : List ℕ). set l p.bit-index (p.left % 2)) p.invariant.1
          ∙ filled_next (bit_of a.word) p.bit-index a.out.now (p.left % 2) (omega arith) (ap (λ (x : ℕ). x % 2) p.invariant.0),
    )

pub returns : goal.returns
returns c = let a = c.args in
    let p = c.loop-bit in
    let e : p.bit-index ≡ length a.out.now = omega arith in
    p.invariant.1 ∙ ap (λ (n : ℕ). filled n (bit_of a.word) a.out.now) e ∙ filled_all (bit_of a.word) (length a.out.now) a.out.now (omega arith)
