-- `windows::listings::list_windows` meets its contract. The invariant: k windows are stored, and the rest is left from sample `from` on. Assumes nothing.
use Rattle.windows.specs.Windows.{columns}
use Rattle.windows.proofs.WindowLists.{Storing}
use Rattle.windows.proofs.listings.list_windows.Given as goal

abbrev pub invariant-loop-k : goal.invariant-loop-k
invariant-loop-k l = Storing l.listing l.row.mask.now l.row.times.now l.row.severities.now l.k l.from (columns l.initial.first l.initial.last l.initial.first_time l.initial.last_time l.initial.severity l.initial.is_last) (columns l.first l.last l.first_time l.last_time l.severity l.is_last)
