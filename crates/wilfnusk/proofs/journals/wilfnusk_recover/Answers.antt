use Rattle.wilfnusk.proofs.journals.wilfnusk_recover.Goals as goal

pub returns : goal.returns
returns c = simp (c.int64.ensures, c.recover.ensures, c.configured.ensures)
