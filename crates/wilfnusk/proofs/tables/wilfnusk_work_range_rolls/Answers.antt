use Rattle.wilfnusk.proofs.tables.wilfnusk_work_range_rolls.Goals as goal

pub returns : goal.returns
returns c = let call = c.work_range_rolls.ensures in
    let roll = c.configured.ensures in
    (simp (c.int64.ensures, call.0, roll), simp (call.1, roll), simp (call.2, roll))
