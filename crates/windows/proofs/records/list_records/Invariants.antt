-- `windows::records::list_records` meets its contract. The invariant: k windows are stored, and the rest is left from sample `from` on. Assumes nothing.
use Rattle.windows.proofs.WindowLists.{StoringRecords}
use Rattle.windows.proofs.records.list_records.Given as goal

abbrev pub invariant-loop-k : goal.invariant-loop-k
invariant-loop-k l = StoringRecords l.listing l.row.mask.now l.row.times.now l.row.severities.now l.k l.from l.initial.out l.out
