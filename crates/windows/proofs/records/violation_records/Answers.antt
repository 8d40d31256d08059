-- `windows::records::violation_records` meets its contract. Assumes nothing.
use Rattle.buffers.specs.Lent.{over}
use Rattle.windows.proofs.WindowLists.{violations, listed}
use Rattle.windows.proofs.records.violation_records.Goals as goal

pub returns : goal.returns
returns c = listed (violations c.args.mask.now c.args.times.now c.args.severities.now) (λ ws. over ws c.args.out.now) _ _ _ _ c.list_records.ensures
