-- `windows::refusal::any_beyond` meets its contract. Assumes nothing.
use Rattle.windows.specs.Refusal.{beyond}
use Rattle.windows.proofs.refusal.any_beyond.Goals as goal

pub returns : goal.returns
returns c = c.any_top.ensures beyond (λ x n h. h)
