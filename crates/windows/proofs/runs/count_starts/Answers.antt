-- `windows::runs::count_starts` meets its contract. The invariant: the start at sample 0, if there is one, those counted, and those that are left are all
-- starts. Assumes nothing.
use Rattle.std.proofs.Common.{◌≡◌, ℕ, ◌+◌, ◌<◌, ◌≤◌, false, List, length, sym, ap, ◌∙◌, arith, eqb-true}
use Rattle.std.proofs.lemmas.Bool.{eqb-false}
use Rattle.buffers.specs.Ranges.{flag}
use Rattle.windows.specs.Runs.{samples_are}
use Rattle.windows.specs.Refusal.{most_lent}
use Rattle.windows.specs.Steps.{starts}
use Rattle.windows.proofs.MaximalRuns.{violation_count, violation_bound}
use Rattle.windows.proofs.NextRun.{starts_left, starts_none, starts_first, starts_next, starts_end}
use Rattle.windows.proofs.Refusals.{byte_flag}
use Rattle.windows.proofs.runs.count_starts.Goals as goal
use Rattle.windows.proofs.runs.count_starts.Goals.{After-from-count}

-- at most every second sample starts a run
few : (mask : List ℕ) → length mask ≤ most_lent → starts false (samples_are 1 mask) ≤ 32_768
few mask h = omega (arith, violation_count mask, violation_bound mask)

-- what is counted here is one of those left
counted : (c : After-from-count) →
    let m = c.args.mask.now in
    starts_left m c.loop-i.i ≡ c.from-count.result + starts_left m (c.loop-i.i + 1)
counted c =
    omega (arith, starts_next c.args.mask.now c.loop-i.i c.loop-i-test.true, c.from-count.ensures ∙ byte_flag _ ∙ ap flag c.is_start.ensures)

pub returns-then-is_empty : goal.returns-then-is_empty
returns-then-is_empty c = starts_none c.args.mask.now (eqb-true _ _ (sym c.is_empty.ensures ∙ c.if-is_empty.true))

pub loop-i-init : goal.loop-i-init
loop-i-init c = let m = c.args.mask.now in
    let n : 0 < length m = omega (arith, eqb-false _ _ (sym c.is_empty.ensures ∙ c.if-is_empty.false)) in
    omega (arith, n, starts_first m n)

pub overflow_add-count : goal.overflow_add-count
overflow_add-count c = omega (arith, c.loop-i.invariant, counted (goal.at.overflow_add-count c).After-from-count, few c.args.mask.now c.requires)

pub loop-i-preserved : goal.loop-i-preserved
loop-i-preserved c = omega (arith, counted (goal.at.loop-i-preserved c).After-from-count)

pub overflow_add-result : goal.overflow_add-result
overflow_add-result c = omega (arith, c.loop-i.invariant, c.from.ensures ∙ byte_flag _ ∙ ap flag c.is_start-2.ensures, few c.args.mask.now c.requires)

pub returns : goal.returns
returns c = omega (arith, c.loop-i.invariant, c.from.ensures ∙ byte_flag _ ∙ ap flag c.is_start-2.ensures, starts_end c.args.mask.now c.loop-i.i c.loop-i-test.false)
