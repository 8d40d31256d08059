-- *Field of regard* (section 6): the mark of each row at one time. Definitions only. Assumes nothing.
use Rattle.std.specs.Prelude.{Bool, false, List, [], ◌∷◌, ℕ, leb, ltb, length, Float, Option}
use Rattle.buffers.specs.Lent.{filled}
use Rattle.buffers.specs.Refusal.{first, carried, Reply, reply, unless_refused}
use Rattle.solar_roll.specs.Plan.{Plan, rows_of, times_of, plan_refusal}
use Rattle.solar_masks.specs.Mask.{mark_at}
use Rattle.solar_masks.specs.declared.mask.MarkRule.{MarkRule}

-- ---- the calls: the plan's refusals, then 9, the time index not below times, then 7

-- 7: a mask of length `room` has no place for each row
unfoldable pub field_short : Plan → ℕ → Bool
field_short p room = ltb room (rows_of p)

-- *Field of regard*: plan, 9, 7; 0 for none. `said` is the number said in the place of 3, 0 in the call that takes no n.
unfoldable pub field_refusal : Plan → ℕ → ℕ → ℕ → ℕ
field_refusal p said time room =
    first (carried (plan_refusal p said false)
    ∷ (leb (times_of p) time, 9)
    ∷ (field_short p room, 7)
    ∷ [])

-- what the call answers: the number that it refuses by, or accepted with 0
unfoldable pub field_reply : Plan → ℕ → ℕ → ℕ → Reply ℕ
field_reply p said time room = reply (field_refusal p said time room) 0

-- what a call leaves in the lent mask, by the rule that it makes of the configured roll
unfoldable pub field_after : Plan → ℕ → ℕ → (Option Float → MarkRule) → List ℕ → List ℕ
field_after p said time rule mask =
    unless_refused (field_refusal p said time (length mask)) (filled (rows_of p) (λ r. mark_at p (rule p.configured) r time) mask) mask
