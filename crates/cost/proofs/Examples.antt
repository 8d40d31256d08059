-- What a size costs, what is refused of it, and the lists that a plan is written into, by computation. Assumes nothing.
use mathlib.Core.Path.{◌≡◌, refl}
use mathlib.Core.List.{List, [], ◌∷◌}
use lib.Ieee.{Float}
use Rattle.buffers.specs.Lent.{over}
use Rattle.buffers.specs.Refusal.{first, carried, refused, accepted, reply, unless_refused}
use Rattle.float.specs.Arithmetic.{zero·0}
use Rattle.solar_roll.specs.Plan.{too_many, samples_refusal}
use Rattle.roll_sweep.specs.Sweep.{chunks}
use Rattle.cost.specs.Cost.{journal_length, size_refusal, cost_refusal, cost_reply, cost_after, plan_lists, lent, same_lists, plan_short, writing_refusal, writing_reply}
use Rattle.cost.specs.declared.PlanLists.{PlanLists as LentLists}

-- of 13 targets, 5 times and 24 rolls: 65 cells, so two chunks; 2 before 3 before 7, and refused, nothing changes
pub costs :
    (cost_reply 13 5 24 3 ≡ accepted 0) ×
    (cost_after 13 5 24 (9 ∷ 9 ∷ 9 ∷ 9 ∷ []) ≡ 173 ∷ 65 ∷ 1560 ∷ 9 ∷ []) ×
    (cost_reply 65537 1 0 0 ≡ refused 2) ×
    (cost_reply 13 5 0 0 ≡ refused 3) ×
    (cost_reply 13 5 24 2 ≡ refused 7) ×
    (cost_after 13 5 24 (9 ∷ 9 ∷ []) ≡ 9 ∷ 9 ∷ [])
unfolding cost_reply cost_after cost_refusal size_refusal journal_length chunks too_many samples_refusal first carried reply unless_refused over
costs = (refl, refl, refl, refl, refl, refl)

-- ---- the lists that a plan is written into

-- in the order in which they are lent
pub of_lists : (targets suns observers tolerances panel : List Float)
    → ((plan_lists targets suns observers tolerances panel).targets ≡ targets)
    × ((plan_lists targets suns observers tolerances panel).suns ≡ suns)
    × ((plan_lists targets suns observers tolerances panel).observers ≡ observers)
    × ((plan_lists targets suns observers tolerances panel).tolerances ≡ tolerances)
    × ((plan_lists targets suns observers tolerances panel).panel ≡ panel)
of_lists targets suns observers tolerances panel = (refl, refl, refl, refl, refl)

abbrev one : List Float
one = zero·0 ∷ []

abbrev two : List Float
two = zero·0 ∷ one

abbrev three : List Float
three = zero·0 ∷ two

-- of one target and one time: each list that is a place short is 7, after 2 and 3
pub writings :
    (writing_reply 1 1 1 (plan_lists three three three one three) ≡ accepted 0) ×
    (writing_reply 1 1 1 (plan_lists two three three one three) ≡ refused 7) ×
    (writing_reply 1 1 1 (plan_lists three two three one three) ≡ refused 7) ×
    (writing_reply 1 1 1 (plan_lists three three two one three) ≡ refused 7) ×
    (writing_reply 1 1 1 (plan_lists three three three [] three) ≡ refused 7) ×
    (writing_reply 1 1 1 (plan_lists three three three one two) ≡ refused 7) ×
    (writing_reply 65537 1 0 (plan_lists [] [] [] [] []) ≡ refused 2) ×
    (writing_reply 1 1 0 (plan_lists [] [] [] [] []) ≡ refused 3)
unfolding writing_reply writing_refusal size_refusal plan_short too_many samples_refusal first carried reply
writings = (refl, refl, refl, refl, refl, refl, refl, refl)

-- the struct that a call is lent, whose lists are the plan's, and which borrows the same lists as itself
pub lent_lists : (l : LentLists) → lent l ≡ plan_lists l.targets.now l.suns.now l.observers.now l.tolerances.now l.panel.now
lent_lists l = refl

pub same_as_itself : (l : LentLists) → same_lists l l
same_as_itself l = (refl, refl, refl, refl, refl)
