-- `wilfnusk::costs::wilfnusk_cost` meets its contract. Assumes nothing.
use Rattle.wilfnusk.proofs.costs.wilfnusk_cost.Goals as goal

pub returns : goal.returns
returns c = let call = c.cost.ensures in
    record { value = simp (c.int64.ensures, call.result_value); out_after = call.out_after }
