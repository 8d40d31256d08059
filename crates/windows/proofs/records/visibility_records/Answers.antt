-- `windows::records::visibility_records` meets its contract. Assumes nothing.
use Rattle.buffers.specs.Lent.{over}
use Rattle.windows.proofs.WindowLists.{visibility, listed}
use Rattle.windows.proofs.records.visibility_records.Goals as goal

pub returns : goal.returns
returns c = listed (visibility c.args.mask.now c.args.times.now) (λ ws. over ws c.args.out.now) _ _ _ _ c.list_records.ensures
