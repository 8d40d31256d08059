-- `journal::range::append_by_units` meets its contract. Assumes nothing.
use mathlib.Core.Path.{◌≡◌, sym, ap, ◌∙◌}
use Prim.Native.Nat.{ℕ, ◌+◌, ◌-◌, min}
use native.Mathlib.Omega.{arith}
use lib.Ieee.{binary64, of_bits}
use lib.ListN.{length, take, replicate, length-replicate}
use Rattle.buffers.specs.Ranges.{tab}
use Rattle.buffers.specs.Lent.{filled}
use Rattle.buffers.proofs.Ranges.{length_tab, tab_ext}
use Rattle.buffers.proofs.Lent.{take_filled}
use Rattle.solar_roll.specs.Vectors.{Vector}
use Rattle.solar_roll.specs.Plan.{Plan, lent, times_of, sun_at}
use Rattle.journal.specs.Plan.{table_times}
use Rattle.journal.proofs.range.append_by_units.Goals as goal
use Rattle.journal.proofs.range.append_by_units.Goals.{After-sun_units}

-- the table's first places hold the units of all times
table : (c : After-sun_units) →
    let p = lent c.args.plan.now in
    take (times_of p) c.sun_units.new.units ≡ tab (times_of p) (sun_at p)
unfolding sun_at
table c =
    let p : Plan = lent c.args.plan.now in
    let blank = replicate table_times (replicate 3 (of_bits binary64 0)) in
    let F : ℕ → Vector = λ t. sun_at p (0 + t) in
    let all : min (length blank) (times_of p - 0) ≡ times_of p = omega (arith, length-replicate {A = Vector} table_times (replicate 3 (of_bits binary64 0)), c.requires.0) in
    ap (take (times_of p)) (c.sun_units.ensures ∙ ap (λ (m : ℕ). filled m F blank) all)
    ∙ take_filled F (times_of p) blank
    ∙ tab_ext (times_of p) F (sun_at p) (λ t h. ap (sun_at p) (omega arith))

pub slice_bounds-append_swept-end : goal.slice_bounds-append_swept-end
slice_bounds-append_swept-end c = rw c.times-end.ensures (sym (ap length (table (goal.at.slice_bounds-append_swept-end c).After-sun_units) ∙ length_tab _ _))

pub append_swept-requires : goal.append_swept-requires
append_swept-requires c = (λ h. rw c.times-end.ensures (table (goal.at.append_swept-requires c).After-sun_units), c.requires.1)
