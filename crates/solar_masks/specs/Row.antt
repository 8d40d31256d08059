-- *One row*: `evaluate` for a row, its mask and its severities (section 5) at the configured roll, all zero without one. Definitions only.
-- Assumes nothing.
use Rattle.std.specs.Prelude.{Bool, false, cond, ◌||◌, List, [], ◌∷◌, ℕ, leb, ltb, length, Float, Option, None, Some}
use Rattle.buffers.specs.Lent.{filled}
use Rattle.buffers.specs.Refusal.{first, carried, Reply, reply, unless_refused}
use Rattle.float.specs.Arithmetic.{◌⊖◌, zero·0}
use Rattle.solar_roll.specs.Roll.{circular_diff_deg}
use Rattle.solar_roll.specs.Cell.{violates}
use Rattle.solar_roll.specs.Plan.{Plan, rows_of, times_of, config_of, cell_of, plan_refusal}
use Rattle.solar_masks.specs.Mask.{at_configured, mark_at}
use Rattle.solar_roll.specs.declared.cell.CellRoll.{CellRoll}
use Rattle.solar_roll.specs.declared.cell.CellRoll.TheVariants.{Free, At, Refused}

-- the severity at a roll: difference - tolerance where violated, else zero
unfoldable pub excess : CellRoll → Float → Float → Float
excess Free roll tolerance = zero·0
excess (At optimal) roll tolerance = cond (violates (At optimal) roll tolerance) (circular_diff_deg roll optimal ⊖ tolerance) zero·0
excess (Refused k) roll tolerance = zero·0

-- the severity at the configured roll; without one it is zero
unfoldable pub severity : CellRoll → Option Float → Float → Float
severity c None tolerance = zero·0
severity c (Some roll) tolerance = excess c roll tolerance

-- the severity of row r at time j
unfoldable pub severity_at : Plan → ℕ → ℕ → Float
severity_at p r j = severity (cell_of p r j) p.configured (config_of p r).tolerance_deg

-- ---- the call: the plan's refusals, then 9, no such row, then 7, of the two lent lists' lengths

-- 7: the mask or the severities, of these lengths, have no place for each time
unfoldable pub row_short : Plan → ℕ → ℕ → Bool
row_short p mask severities = ltb mask (times_of p) || ltb severities (times_of p)

-- *One row*: plan, 9, 7; 0 for none
unfoldable pub row_refusal : Plan → ℕ → ℕ → ℕ → ℕ
row_refusal p r mask severities =
    first (carried (plan_refusal p 0 false)
    ∷ (leb (rows_of p) r, 9)
    ∷ (row_short p mask severities, 7)
    ∷ [])

-- what the call answers: the number that it refuses by, or accepted with 0
unfoldable pub row_reply : Plan → ℕ → ℕ → ℕ → Reply ℕ
row_reply p r mask severities = reply (row_refusal p r mask severities) 0

-- what the call leaves in the lent mask, and in the lent severities
unfoldable pub row_mask_after : Plan → ℕ → List ℕ → List Float → List ℕ
row_mask_after p r mask severities =
    unless_refused (row_refusal p r (length mask) (length severities)) (filled (times_of p) (mark_at p (at_configured p.configured) r) mask) mask

unfoldable pub severities_after : Plan → ℕ → List ℕ → List Float → List Float
severities_after p r mask severities =
    unless_refused (row_refusal p r (length mask) (length severities)) (filled (times_of p) (severity_at p r) severities) severities
