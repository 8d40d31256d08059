use Rattle.wilfnusk.proofs.masks.wilfnusk_in_constraint_batch.Goals as goal

pub returns : goal.returns
returns c = let call = c.in_constraint_batch.ensures in
    let roll = c.configured.ensures in
    (simp (c.int64.ensures, call.result_value, roll), simp (call.mask_after, roll))
