-- `windows::refusal::any_bad_severity` meets its contract. Assumes nothing.
use Rattle.windows.specs.Refusal.{bad_severity}
use Rattle.windows.proofs.refusal.any_bad_severity.Goals as goal

pub returns : goal.returns
returns c = c.any_top.ensures bad_severity (λ x n h. h)
