-- `windows::listings::violation_windows` meets its contract. Assumes nothing.
use Rattle.windows.specs.Windows.{columns, written}
use Rattle.windows.proofs.WindowLists.{violations, listed}
use Rattle.windows.proofs.listings.violation_windows.Goals as goal

pub returns : goal.returns
returns c =
    let d = columns c.args.first.now c.args.last.now c.args.first_time.now c.args.last_time.now c.args.severity.now c.args.is_last.now in
    listed (violations c.args.mask.now c.args.times.now c.args.severities.now) (λ ws. written ws d) _ _ d _ c.list_windows.ensures
