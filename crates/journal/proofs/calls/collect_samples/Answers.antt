-- `journal::calls::collect_samples` meets its contract. Assumes nothing.
use mathlib.Core.Path.{◌≡◌, refl}
use mathlib.Core.List.{List}
use lib.Ieee.{Float}
use lib.ListN.{length}
use Rattle.std.proofs.lemmas.Result.{err_from_is_err_and}
use Rattle.buffers.specs.Refusal.{found}
use Rattle.solar_roll.specs.Plan.{lent}
use Rattle.roll_sweep.specs.Rolls.{even_rolls}
use Rattle.roll_sweep.proofs.Even.{length_even}
use Rattle.journal.specs.Calls.{collect_conditions, collect_refusal}
use Rattle.journal.specs.Pass.{Passed}
use Rattle.journal.specs.Plan.{sweep_of}
use Rattle.journal.proofs.Chains.{plan_refused, collect_err}
use Rattle.journal.proofs.calls.collect_samples.Goals as goal
use Rattle.journal.proofs.calls.collect_samples.Goals.{In_ok-passed}

-- the plan has passed
passes : (c : In_ok-passed) (rolls : List Float) →
    let a = c.args in
    length rolls ≡ a.samples.count → Passed (sweep_of (lent a.plan.now) rolls (found a.samples.said)) c.in_ok-passed.passed (length a.journal.now) a.used
passes c rolls size = c.in_ok-passed.ensures.passed rolls size _ refl

pub returns-in_err-passed : goal.returns-in_err-passed
unfolding collect_refusal
returns-in_err-passed c = let a = c.args in
    let p = err_from_is_err_and c.from_residual.result c.from_residual.ensures.1 in
    rw (p.1, p.2) (λ rolls size.
    let s = sweep_of (lent a.plan.now) rolls (found a.samples.said) in
    collect_err s a.journal.now a.used a.mask.now _ (plan_refused s a.journal.now a.used (collect_conditions s a.journal.now a.used a.mask.now) _ (c.in_err-passed.ensures.refusal rolls size)))

pub collect_lines-requires : goal.collect_lines-requires
collect_lines-requires c = let n = c.args.samples.count in
    let q = passes (goal.at.collect_lines-requires c).In_ok-passed (even_rolls n) (length_even n) in
    record { sizes = q.sizes; used = q.used }

pub returns : goal.returns
returns c rolls size = c.collect_lines.ensures _ (passes (goal.at.returns c).In_ok-passed rolls size)
