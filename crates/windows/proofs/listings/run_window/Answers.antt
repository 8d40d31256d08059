-- `windows::listings::run_window` meets its contract. Assumes nothing.
use Rattle.std.proofs.Common.{ap, ◌∙◌}
use lib.Ieee.{Float}
use Rattle.windows.specs.Runs.{Run, run}
use Rattle.windows.specs.Windows.{window_of}
use Rattle.windows.proofs.listings.run_window.Goals as goal

pub returns : goal.returns
unfolding window_of
returns c = c.window_at.ensures ∙ ap (λ (x : Float). window_of c.args.row.now.times.now (λ (_ : Run). x) (run c.args.first c.args.last)) c.severity_of-severity.ensures
