use Rattle.wilfnusk.proofs.journals.wilfnusk_work.Goals as goal

pub returns : goal.returns
returns c = let call = c.work.ensures in
    let roll = c.configured.ensures in
    (simp (c.int64.ensures, call.0, roll), simp (call.1, roll))
