use Rattle.wilfnusk.proofs.masks.wilfnusk_constrained_at_every_roll.Goals as goal

pub returns : goal.returns
returns c = let call = c.in_constraint_batch_constrained_at_every_roll.ensures in
    let roll = c.configured.ensures in
    (simp (c.int64.ensures, call.result_value, roll), simp (call.mask_after, roll))
