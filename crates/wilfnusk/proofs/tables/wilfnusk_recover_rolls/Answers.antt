use Rattle.wilfnusk.proofs.tables.wilfnusk_recover_rolls.Goals as goal

pub returns : goal.returns
returns c = simp (c.int64.ensures, c.recover_rolls.ensures, c.configured.ensures)
