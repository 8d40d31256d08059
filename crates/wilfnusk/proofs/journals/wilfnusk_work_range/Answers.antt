use Rattle.wilfnusk.proofs.journals.wilfnusk_work_range.Goals as goal

pub returns : goal.returns
returns c = let call = c.work_range.ensures in
    let roll = c.configured.ensures in
    (simp (c.int64.ensures, call.0, roll), simp (call.1, roll), simp (call.2, roll))
