use Rattle.wilfnusk.proofs.masks.wilfnusk_evaluate.Goals as goal

pub returns : goal.returns
returns c = let call = c.evaluate.ensures in
    let roll = c.configured.ensures in
    (simp (c.int64.ensures, call.result_value, roll), simp (call.mask_after, roll), simp (call.severities_after, roll))
