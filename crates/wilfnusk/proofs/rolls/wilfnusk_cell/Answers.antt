use mathlib.Core.Path.{◌≡◌, sym, ap, ◌∙◌}
use Prim.Native.Nat.{ℕ, zero, suc, ◌<◌}
use native.Mathlib.Omega.{arith}
use Rattle.buffers.specs.Refusal.{refused, reply}
use Rattle.solar_roll.specs.Cell.{cell_reply}
use Rattle.solar_roll.specs.declared.cell.CellRoll.{CellRoll}
use Rattle.solar_roll.proofs.PlanFacts.{numbers_below}
use Rattle.wilfnusk.specs.Answers.{minus, int64, cell_answer, cell_written}
use Rattle.wilfnusk.proofs.Accepted.{minus_large}
use Rattle.wilfnusk.proofs.rolls.wilfnusk_cell.Goals as goal

-- a refusal's number is not read as 1
not_read_one : (why k : ℕ) (cell : CellRoll) → refused k ≡ reply why cell → why < 64 → minus k ≡ 1 → ⊥
unfolding reply
not_read_one zero k cell e h m = let no : minus k ≡ 0 = cc in omega (arith, no, m)
not_read_one (suc why) k cell e h m =
    let is : k ≡ suc why = cc in
    omega (arith, m, minus_large k (omega arith) (omega arith))

pub returns-in-Free : goal.returns-in-Free
unfolding int64 cell_answer cell_written cell_reply
returns-in-Free c = let said = sym c.cell_roll.ensures.result_value in
    (simp (said, c.in-Free.is), simp (said, c.in-Free.is), λ e. absurd (omega (arith, e)))

pub returns-in-At : goal.returns-in-At
unfolding int64 cell_answer cell_written cell_reply
returns-in-At c = let call = c.cell_roll in
    let at = c.in-At.is in
    (simp (sym call.ensures.result_value, at), simp (sym call.ensures.result_value, at), λ e. call.ensures.in_turn _ at)

pub returns-in-Refused : goal.returns-in-Refused
unfolding int64 cell_answer cell_written cell_reply
returns-in-Refused c = let call = c.cell_roll in
    let said = sym call.ensures.result_value in
    let refused = c.in-Refused.is in
    (simp (said, refused, c.minus.ensures), simp (said, refused, c.minus.ensures), λ e. absurd (not_read_one _ _ _ (sym (ap cell_reply refused) ∙ call.ensures.result_value) (numbers_below _ _ _ _) (sym c.minus.ensures ∙ e)))
