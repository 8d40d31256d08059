use Rattle.wilfnusk.proofs.masks.wilfnusk_in_constraint_batch_at_roll.Goals as goal

pub returns : goal.returns
returns c = let call = c.in_constraint_batch_at_roll.ensures in
    let roll = c.configured.ensures in
    let at = c.asked-roll.ensures in
    (simp (c.int64.ensures, call.result_value, roll), simp (call.mask_after, roll, at))
