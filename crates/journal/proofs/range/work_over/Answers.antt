-- `journal::range::work_over` meets its contract. Assumes nothing.
use mathlib.Core.List.{List}
use mathlib.Core.Path.{◌≡◌, refl, sym, ap, ◌∙◌, subst}
use Prim.Native.Nat.{ℕ, ◌≤◌, ◌<◌}
use native.Mathlib.Omega.{arith}
use lib.ListN.{length}
use Rattle.std.proofs.lemmas.Result.{err_from_is_err_and}
use Rattle.buffers.specs.Refusal.{found}
use Rattle.buffers.specs.declared.reasons.Refusal.TheVariants.{NoSuchIndex}
use Rattle.solar_roll.specs.Plan.{lent}
use Rattle.roll_sweep.specs.Sweep.{Sweep}
use Rattle.journal.specs.Calls.{work_refusal}
use Rattle.journal.specs.Pass.{Passed}
use Rattle.journal.specs.Plan.{sweep_of}
use Rattle.journal.specs.Range.{ran_to, ran, range_refusal}
use Rattle.journal.proofs.Along.{Came, came, ready}
use Rattle.journal.proofs.Chains.{range_9, range_work, range_err, range_plan, range_ok}
use Rattle.journal.proofs.Planned.{passed}
use Rattle.journal.proofs.range.work_over.Goals as goal
use Rattle.journal.proofs.range.work_over.Goals.{In_ok-passed}

abbrev sweep : In_ok-passed → ℕ → Sweep
sweep c said = sweep_of (lent c.args.plan.now) c.args.rolls.now said

-- the plan has passed
passes : (c : In_ok-passed) → Passed (sweep c (found c.args.said)) c.in_ok-passed.passed (length c.args.journal.now) c.args.used
passes c = c.in_ok-passed.ensures.passed c.args.rolls.now refl _ refl

-- so nothing is said of the rolls
unsaid : (c : In_ok-passed) → sweep c (found c.args.said) ≡ sweep c 0
unsaid c = let a = c.args in ap (sweep c) (passed _ a.rolls.now (found a.said) (length a.journal.now) a.used (passes c).plan).none_said

same_ran : (c : In_ok-passed) →
    let r = ran_to c.args.journal.now c.args.used c.args.from in
    ran (sweep c 0) c.args.limit r ≡ ran (sweep c (found c.args.said)) c.args.limit r
same_ran c = let a = c.args in ap (λ (s : Sweep). ran s a.limit (ran_to a.journal.now a.used a.from)) (sym (unsaid c))

-- work's refusal of the first chunk is the range's
first_chunk : (c : In_ok-passed) (to : ℕ) →
    let a = c.args in
    a.from < to → range_refusal (sweep c (found a.said)) a.from to a.journal.now a.used ≡ work_refusal (sweep c (found a.said)) a.from a.journal.now a.used
first_chunk c to h = let a = c.args in range_work (sweep c (found a.said)) a.from to a.journal.now a.used (passes c).plan h

-- where it stopped: no chunk before the first, and there was room for each line
come : (c : In_ok-passed) (bytes : List ℕ) (used next : ℕ) →
    let a = c.args in
    ran_to bytes used next ≡ ran (sweep c 0) a.limit (ran_to a.journal.now a.used a.from)
    → (a.from ≤ next) × (used ≤ length a.journal.now)
come c bytes used next e =
    let a = c.args in
    let r = subst (Came a.journal.now a.used a.from) (sym e) (came (sweep c 0) a.limit a.journal.now a.used a.from (passes c).used) in
    (r.since, r.within)

pub returns-in_err-passed : goal.returns-in_err-passed
returns-in_err-passed c = let a = c.args in
    let p = err_from_is_err_and c.from_residual.result c.from_residual.ensures.1 in
    rw (p.1, p.2) (λ to e. range_plan _ a.from to a.journal.now a.used a.stopped.now _ (c.in_err-passed.ensures.refusal a.rolls.now refl))

pub returns-then-limit-eq0 : goal.returns-then-limit-eq0
returns-then-limit-eq0 c to e = let a = c.args in
    let at = goal.at.returns-then-limit-eq0 c in
    let s = sweep at.In_ok-passed (found a.said) in
    range_err s a.from to a.journal.now a.used a.stopped.now NoSuchIndex
    (sym (range_9 s a.from to a.journal.now a.used (passes at.In_ok-passed).plan (omega (arith, e, c.if-limit-eq0.true))))

pub check_work-requires : goal.check_work-requires
check_work-requires c = let q = passes (goal.at.check_work-requires c).In_ok-passed in
    record { bounded = record { sizes = q.sizes; used = q.used }; blank = record { no_flag = refl; no_mask = refl } }

pub returns-in_err-check_work : goal.returns-in_err-check_work
returns-in_err-check_work c = let a = c.args in
    let at = goal.at.returns-in_err-check_work c in
    let p = err_from_is_err_and c.from_residual-in_err-check_work.result c.from_residual-in_err-check_work.ensures.1 in
    rw (p.1, p.2) (λ to e.
    range_err (sweep at.In_ok-passed (found a.said)) a.from to a.journal.now a.used a.stopped.now _
    (c.in_err-check_work.ensures.refusal _ (passes at.In_ok-passed) ∙ sym (first_chunk at.In_ok-passed to (omega (arith, e, c.if-limit-eq0.false)))))

pub append_lines-next-requires : goal.append_lines-next-requires
append_lines-next-requires c = let a = c.args in
    let at = goal.at.append_lines-next-requires c in
    let q = passes at.In_ok-passed in
    (_, rw (unsaid at.In_ok-passed) at (ready (sweep at.In_ok-passed (found a.said)) _ a.journal.now a.used a.from _ _ q (sym (c.in_ok-check_work.ensures.refusal _ q)) (c.in_ok-check_work.ensures.tables refl)))

pub overflow_sub-lines : goal.overflow_sub-lines
overflow_sub-lines c = (come (goal.at.overflow_sub-lines c).In_ok-passed _ _ _ c.append_lines-next.ensures).0

pub overflow_mul-end : goal.overflow_mul-end
overflow_mul-end c = omega (arith, come (goal.at.overflow_mul-end c).In_ok-passed _ _ _ c.append_lines-next.ensures)

pub overflow_add-end : goal.overflow_add-end
overflow_add-end c = omega (arith, come (goal.at.overflow_add-end c).In_ok-passed _ _ _ c.append_lines-next.ensures)

pub returns : goal.returns
returns c to e = let a = c.args in
    let at = goal.at.returns c in
    let q = passes at.In_ok-passed in
    let s = sweep at.In_ok-passed (found a.said) in
    let all = ap (λ (m : ℕ). ran s m (ran_to a.journal.now a.used a.from)) (sym e) in
    range_ok s a.from to a.journal.now a.used a.stopped.now _ _ _ (c.append_lines-next.ensures ∙ same_ran at.In_ok-passed ∙ all)
    (first_chunk at.In_ok-passed to (omega (arith, e, c.if-limit-eq0.false)) ∙ sym (c.in_ok-check_work.ensures.refusal _ q))
