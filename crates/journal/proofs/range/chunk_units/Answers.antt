-- `chunk_units`: before cell k, the units of the cells before it stand in the table's first places. Assumes nothing.
use Prim.Native.Nat.{ℕ, ◌+◌, ◌-◌, ◌%◌, ◌≤◌, ◌<◌}
use mathlib.Core.Path.{◌≡◌, refl, sym, ap, ◌∙◌}
use mathlib.Core.List.{List}
use native.Mathlib.Nat.{add-mod_right}
use native.Mathlib.Omega.{arith}
use lib.ListN.{length, set, take, length-set}
use lib.Ieee.{Float}
use Rattle.buffers.specs.Lent.{filled}
use Rattle.buffers.proofs.Lent.{filled_zero, filled_next, take_filled}
use Rattle.solar_roll.specs.Vectors.{Vector}
use Rattle.solar_roll.specs.Plan.{count}
use Rattle.roll_sweep.proofs.Cells.{entry}
use Rattle.journal.proofs.range.chunk_units.Goals as goal
use Rattle.journal.proofs.range.chunk_units.Goals.{then-at-times, else-at-times}
use Rattle.journal.proofs.range.chunk_units.Invariants.{unit_at}

-- the time comes again after a row's times
again : (suns observers : List Float) (first k : ℕ) → count suns ≤ k → unit_at suns observers first (k - count suns) ≡ unit_at suns observers first k
again suns observers first k h =
    let e : first + k ≡ first + (k - count suns) + count suns = omega arith in
    let m : (first + (k - count suns)) % count suns ≡ (first + k) % count suns = sym (ap (λ (n : ℕ). n % count suns) e ∙ add-mod_right (first + (k - count suns)) (count suns)) in
    rw m

-- a unit is written
written : (suns observers : List Float) (first k : ℕ) (before units now : List Vector) (unit : Vector) →
    k < 64 → length before ≡ 64 → length units ≡ 64 → units ≡ filled k (unit_at suns observers first) before → now ≡ set units k unit → unit ≡ unit_at suns observers first k →
    (length now ≡ 64) × (now ≡ filled (k + 1) (unit_at suns observers first) before)
written suns observers first k before units now unit l b n e s u =
    (ap length s ∙ simp length-set n, s ∙ ap (λ (x : List Vector). set x k unit) e ∙ filled_next _ _ _ _ (omega (arith, l, b)) u)

pub loop-at-init : goal.loop-at-init
loop-at-init c = (refl, filled_zero _ _)

pub loop-at-preserved : goal.loop-at-preserved
loop-at-preserved c = let at = c.loop-at in
    let a = c.args in
    let l : at.at < 64 = omega arith in
    elim c.if-at-times.branch [
      | then-at-times w ↦ written a.suns.now a.observers.now a.first at.at _ at.units _ _ l refl at.invariant.0 at.invariant.1 w.units-is cc
      | else-at-times w ↦
          let h : at.at - count a.suns.now < at.at = omega arith in
          written a.suns.now a.observers.now a.first at.at _ at.units _ _ l refl at.invariant.0 at.invariant.1 w.units-is
          (entry at.at (unit_at a.suns.now a.observers.now a.first) _ _ _ (ap (take at.at) at.invariant.1 ∙ take_filled _ _ _) h
          ∙ again a.suns.now a.observers.now a.first at.at (omega arith))
    ]

pub returns : goal.returns
returns c = let h : c.loop-at.at ≡ c.args.cells = omega arith in
    rw (← h, c.loop-at.invariant.1) (take_filled _ _ _)
