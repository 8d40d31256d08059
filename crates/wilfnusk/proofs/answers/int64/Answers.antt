use Rattle.wilfnusk.specs.Answers.{int64}
use Rattle.wilfnusk.proofs.answers.int64.Goals as goal

pub returns-in-Ok : goal.returns-in-Ok
unfolding int64
returns-in-Ok c = simp c.in-Ok.is

pub returns-in-Err : goal.returns-in-Err
unfolding int64
returns-in-Err c = simp (c.minus.ensures, c.number.ensures, c.in-Err.is)
