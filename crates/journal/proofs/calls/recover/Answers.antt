-- `journal::calls::recover` meets its contract. Assumes nothing.
use mathlib.Core.Path.{refl, ap, ◌∙◌}
use Rattle.solar_roll.specs.Plan.{lent}
use Rattle.roll_sweep.specs.Sweep.{Sweep}
use Rattle.roll_sweep.specs.Rolls.{even_rolls}
use Rattle.roll_sweep.proofs.Even.{length_even}
use Rattle.journal.specs.Calls.{recover_reply}
use Rattle.journal.proofs.Planned.{even_sweep_lem}
use Rattle.journal.proofs.calls.recover.Goals as goal

pub returns : goal.returns
returns c = let a = c.args in
    let b = a.journal.now in
    let even = even_sweep_lem (lent a.plan.now) a.n _ _ refl c.samples_refusal-said.ensures in
    let r = c.recover_samples.ensures (even_rolls a.n) (length_even a.n) in
    r ∙ ap (λ (s : Sweep). recover_reply s b a.used) even
