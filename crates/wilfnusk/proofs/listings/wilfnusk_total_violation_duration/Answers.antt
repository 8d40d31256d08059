use Rattle.wilfnusk.specs.Answers.{int64, number_answer, number_written}
use mathlib.Core.Path.{sym}
use Rattle.wilfnusk.proofs.listings.wilfnusk_total_violation_duration.Goals as goal

pub returns-in-Ok : goal.returns-in-Ok
unfolding int64 number_answer number_written
returns-in-Ok c = (simp (sym c.in-Ok.ensures), simp (sym c.in-Ok.ensures))

pub returns-in-Err : goal.returns-in-Err
unfolding int64 number_answer number_written
returns-in-Err c = (simp (sym c.in-Err.ensures, c.minus.ensures, c.number.ensures), simp (sym c.in-Err.ensures))
