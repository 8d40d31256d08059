-- `windows::listings::visibility_windows` meets its contract. Assumes nothing.
use Rattle.windows.specs.Windows.{columns, written}
use Rattle.windows.proofs.WindowLists.{visibility, listed}
use Rattle.windows.proofs.listings.visibility_windows.Goals as goal

pub returns : goal.returns
returns c =
    let d = columns c.args.first.now c.args.last.now c.args.first_time.now c.args.last_time.now c.args.severity.now c.args.is_last.now in
    listed (visibility c.args.mask.now c.args.times.now) (λ ws. written ws d) _ _ d _ c.list_windows.ensures
