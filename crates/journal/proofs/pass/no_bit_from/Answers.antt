-- `journal::pass::no_bit_from` meets its contract. Assumes nothing.
use Rattle.journal.proofs.Possible.{shr_zero}
use Rattle.journal.proofs.pass.no_bit_from.Goals as goal

pub returns-else-k-eq64 : goal.returns-else-k-eq64
returns-else-k-eq64 c = shr_zero c.args.mask c.args.k
