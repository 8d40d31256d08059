-- `journal::range::pays` meets its contract. Assumes nothing.
use mathlib.Core.Path.{◌≡◌, ap}
use Prim.Native.Nat.{ℕ}
use native.Mathlib.Omega.{arith}
use Rattle.buffers.specs.Ranges.{flag}
use Rattle.journal.proofs.range.pays.Goals as goal

pub returns-then-times-gt-TABLE_TIMES : goal.returns-then-times-gt-TABLE_TIMES
returns-then-times-gt-TABLE_TIMES c e = let o : ◌≡◌ {A = ℕ} 0 1 = ap flag e in
    absurd (omega arith)
