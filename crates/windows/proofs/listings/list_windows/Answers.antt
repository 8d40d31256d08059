-- `windows::listings::list_windows` meets its contract. Assumes nothing.
use Rattle.std.proofs.Common.{arith}
use Rattle.std.proofs.lemmas.Option.{MatchOption-at_some}
use Rattle.std.proofs.lemmas.Result.{err_from_is_err_and}
use Rattle.windows.specs.Windows.{columns, written}
use Rattle.windows.specs.Refusal.{lengths}
use Rattle.windows.specs.Steps.{IsNextRun}
use Rattle.windows.proofs.WindowLists.{Accepted, NextWindow, next_found, next_is, run_fits, accepted_listing, accepted_few, refused_listing, even_room, storing_none, storing_more, storing_room, storing_next, storing_all}
use Rattle.windows.proofs.listings.list_windows.Goals as goal
use Rattle.windows.proofs.listings.list_windows.Goals.{In_ok-count, After-unwrap-run, After-run_window-w}

ok : (c : In_ok-count) → Accepted c.args.listing c.args.row.now.mask.now c.args.row.now.times.now c.args.row.now.severities.now
    (lengths (columns c.args.first.now c.args.last.now c.args.first_time.now c.args.last_time.now c.args.severity.now c.args.is_last.now)) c.in_ok-count.count
unfolding lengths
ok c = accepted_listing _ _ _ _ _ _ c.in_ok-count.ensures

-- the next run, and its window
run : (c : After-unwrap-run) → IsNextRun c.args.listing c.args.row.now.mask.now c.loop-k.from c.unwrap-run.result.start c.unwrap-run.result.end
run c = MatchOption-at_some _ _ _ c.unwrap-run.ensures c.next_run.ensures

window : (c : After-run_window-w) → NextWindow c.args.listing c.args.row.now.mask.now c.args.row.now.times.now c.args.row.now.severities.now c.loop-k.from c.unwrap-run.result.end c.run_window-w.result
window c =
    next_is _ _ _ _ _ _ _ _ (MatchOption-at_some _ _ _ c.unwrap-run.ensures c.next_run.ensures) c.run_window-w.ensures

pub returns-in_err-count : goal.returns-in_err-count
unfolding lengths
returns-in_err-count c =
    let p = err_from_is_err_and c.from_residual.result c.from_residual.ensures.1 in
    let d = columns c.args.first.now c.args.last.now c.args.first_time.now c.args.last_time.now c.args.severity.now c.args.is_last.now in
    rw (p.1, p.2) (refused_listing _ _ _ _ _ (λ ws. written ws d) d _ c.in_err-count.ensures)

pub loop-k-init : goal.loop-k-init
loop-k-init c = storing_none _ _ _ _ _

pub next_run-requires : goal.next_run-requires
next_run-requires c = c.loop-k.invariant.passed.in_row

pub unwrap-run-requires : goal.unwrap-run-requires
unwrap-run-requires c =
    next_found c.args.listing c.args.row.now.mask.now c.args.row.now.times.now c.args.row.now.severities.now _ _ _ c.next_run.ensures
    (storing_more _ _ _ _ _ _ _ _ _ (ok (goal.at.unwrap-run-requires c).In_ok-count) c.loop-k.invariant c.loop-k-test.true)

pub run_window-w-requires : goal.run_window-w-requires
run_window-w-requires c =
    run_fits _ _ _ _ _ _ _ (run (goal.at.run_window-w-requires c).After-unwrap-run) (ok (goal.at.run_window-w-requires c).In_ok-count).row

pub store-requires : goal.store-requires
store-requires c =
    let k = ok (goal.at.store-requires c).In_ok-count in
    (storing_room _ _ _ _ _ _ _ _ _ (accepted_few _ _ _ _ _ _ k) (even_room _ _ k.even k.room) c.loop-k.invariant c.loop-k-test.true, (window (goal.at.store-requires c).After-run_window-w).flagged)

pub loop-k-preserved : goal.loop-k-preserved
loop-k-preserved c =
    let k = ok (goal.at.loop-k-preserved c).In_ok-count in
    storing_next _ _ _ _ _ _ _ _ _ (accepted_few _ _ _ _ _ _ k) (even_room _ _ k.even k.room) c.loop-k.invariant c.loop-k-test.true _ _ _ (window (goal.at.loop-k-preserved c).After-run_window-w) c.store.ensures

pub returns : goal.returns
returns c = storing_all _ _ _ _ _ _ _ _ _ (ok (goal.at.returns c).In_ok-count) c.loop-k.invariant c.loop-k-test.false (omega arith)
