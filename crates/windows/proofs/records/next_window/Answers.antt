-- `windows::records::next_window` meets its contract. Assumes nothing.
use Rattle.std.proofs.lemmas.Option.{MatchOption-at_some}
use Rattle.windows.specs.Steps.{IsNextRun}
use Rattle.windows.proofs.WindowLists.{next_found, next_is, run_fits}
use Rattle.windows.proofs.records.next_window.Goals as goal
use Rattle.windows.proofs.records.next_window.Goals.{After-unwrap-run}

-- the next run
run : (c : After-unwrap-run) → IsNextRun c.args.listing c.args.row.now.mask.now c.args.from c.unwrap-run.result.start c.unwrap-run.result.end
run c = MatchOption-at_some _ _ _ c.unwrap-run.ensures c.next_run.ensures

pub next_run-requires : goal.next_run-requires
next_run-requires c = c.requires.0

pub unwrap-run-requires : goal.unwrap-run-requires
unwrap-run-requires c =
    next_found c.args.listing c.args.row.now.mask.now c.args.row.now.times.now c.args.row.now.severities.now _ _ _ c.next_run.ensures c.requires.2

pub run_window-requires : goal.run_window-requires
run_window-requires c = run_fits _ _ _ _ _ _ _ (run (goal.at.run_window-requires c).After-unwrap-run) c.requires.1

pub returns : goal.returns
returns c = let w = next_is c.args.listing c.args.row.now.mask.now c.args.row.now.times.now c.args.row.now.severities.now _ _ _ _ (run (goal.at.returns c).After-unwrap-run) c.run_window.ensures in
    (w.left, w.in_row, w.flagged)
