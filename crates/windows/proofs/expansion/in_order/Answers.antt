-- `windows::expansion::in_order` meets its contract. Assumes nothing.
use Rattle.windows.proofs.Spread.{sorted_in_order}
use Rattle.windows.proofs.expansion.in_order.Goals as goal

pub returns : goal.returns
returns c = sorted_in_order _ _ c.is_sorted.ensures.by_index c.is_sorted.ensures.cases
