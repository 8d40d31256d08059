use Rattle.wilfnusk.proofs.masks.wilfnusk_field_of_regard_violated_at_roll.Goals as goal

pub returns : goal.returns
returns c = let call = c.field_of_regard_violated_at_roll.ensures in
    let roll = c.configured.ensures in
    (simp (c.int64.ensures, call.result_value, roll), simp (call.mask_after, roll))
