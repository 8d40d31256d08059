-- `journal::calls::collect` meets its contract. Assumes nothing.
use mathlib.Core.Path.{refl, ap, ◌∙◌}
use Rattle.solar_roll.specs.Plan.{lent}
use Rattle.roll_sweep.specs.Sweep.{Sweep}
use Rattle.roll_sweep.specs.Rolls.{even_rolls}
use Rattle.roll_sweep.proofs.Even.{length_even}
use Rattle.journal.specs.Calls.{collect_reply, collect_mask}
use Rattle.journal.proofs.Planned.{even_sweep_lem}
use Rattle.journal.proofs.calls.collect.Goals as goal

pub returns : goal.returns
returns c = let a = c.args in
    let b = a.journal.now in
    let even = even_sweep_lem (lent a.plan.now) a.n _ _ refl c.samples_refusal-said.ensures in
    let r = c.collect_samples.ensures (even_rolls a.n) (length_even a.n) in
    (r.0 ∙ ap (λ (s : Sweep). collect_reply s b a.used a.mask.now) even, r.1 ∙ ap (λ (s : Sweep). collect_mask s b a.used a.mask.now) even)
