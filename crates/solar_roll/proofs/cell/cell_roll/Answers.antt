use Rattle.std.specs.Prelude.{◌≡◌}
use Rattle.solar_roll.proofs.PlanFacts.{numbers}
use Rattle.solar_roll.proofs.Finite.{answer_range}
use Rattle.solar_roll.specs.Vectors.{Vector}
use Rattle.solar_roll.specs.Cell.{optimal_roll}
use mathlib.Core.Path.{sym, ap, ◌∙◌}
use borrow.Author.Rules.{rules}
use lib.ListN.{length}
use Rattle.solar_roll.proofs.cell.cell_roll.Goals as goal

pub returns-in-Ok-clause-in_turn : goal.returns-in-Ok-clause-in_turn
returns-in-Ok-clause-in_turn c = let a = c.args in
    let accepted = sym c.in-Ok.ensures in
    let answer = c.optimal_roll.ensures ∙ ap (λ (unit : Vector). optimal_roll a.target unit a.panel_normal) c.sun_unit.ensures in
    let target_length : length a.target ≡ 3 = search rules in
    let sun_length : length a.sun ≡ 3 = search rules in
    let observer_length : length a.observer ≡ 3 = search rules in
    let normal_length : length a.panel_normal ≡ 3 = search rules in
    λ roll e. answer_range _ _ _ _ (numbers _ _ _ _ accepted) target_length sun_length observer_length normal_length roll (sym answer ∙ e)
