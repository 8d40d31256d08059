-- Masks: a byte a cell, 0 clear or 1 marked, in order of cell number. Which rule each call marks by (sections 2 and 6), and *Masks, named values*
-- of the refusals. Definitions only. Assumes nothing.
use Rattle.std.specs.Prelude.{Bool, false, cond, List, [], ◌∷◌, ℕ, ◌/◌, ◌%◌, ◌<◌, eqb, ltb, length, get_or, Float, Option, None, Some}
use Rattle.std.specs.Float.{nan}
use Rattle.std.specs.Float.Ieee.{lt}
use Rattle.buffers.specs.Ranges.{flag}
use Rattle.buffers.specs.Lent.{filled}
use Rattle.buffers.specs.Refusal.{first, carried, Reply, reply, unless_refused}
use Rattle.float.specs.Arithmetic.{◌⊖◌, rem_euclid}
use Rattle.solar_roll.specs.Roll.{InTurn, sample_step}
use Rattle.solar_roll.specs.Cell.{violates, in_force}
use Rattle.solar_roll.specs.Plan.{Plan, times_of, cells_of, config_of, cell_of, optimal_at, plan_refusal}
use Rattle.solar_roll.specs.declared.cell.CellRoll.{CellRoll}
use Rattle.solar_roll.specs.declared.cell.CellRoll.TheVariants as cell
use Rattle.solar_roll.specs.declared.cell.EvaluationRoll.{EvaluationRoll}
use Rattle.solar_masks.specs.declared.mask.MarkRule.{MarkRule}
use Rattle.solar_masks.specs.declared.mask.MarkRule.TheVariants.{AtRoll, EveryStep, Nothing}

-- ---- section 6: a cell whose optimal roll is too far from every multiple of a step

-- the smaller of phase and step - phase, where phase = roll rem step
unfoldable pub step_distance : Float → Float → Float
step_distance roll step =
    let phase = rem_euclid roll step in
    cond (lt (step ⊖ phase) phase) (step ⊖ phase) phase

-- not Free, and that distance of the optimal roll > tolerance
unfoldable pub misses_steps : CellRoll → Float → Float → Bool
misses_steps (cell.Free) step tolerance = false
misses_steps (cell.At optimal) step tolerance = lt tolerance (step_distance optimal step)
misses_steps (cell.Refused k) step tolerance = false

-- ---- the rules

-- whether a rule marks a cell, at a tolerance: violated at a roll, or too far from every multiple of a step; Nothing marks none
unfoldable pub marked_by : CellRoll → MarkRule → Float → Bool
marked_by c (AtRoll roll) tolerance = violates c roll tolerance
marked_by c (EveryStep step) tolerance = misses_steps c step tolerance
marked_by c Nothing tolerance = false

-- at a roll: a configured roll overrides Sweep, never Fixed
unfoldable pub at_roll : EvaluationRoll → Option Float → MarkRule
at_roll roll configured = AtRoll (in_force roll configured)

-- at the configured roll; without one nothing is marked
unfoldable pub at_configured : Option Float → MarkRule
at_configured None = Nothing
at_configured (Some roll) = AtRoll roll

-- at every roll, with step = 360 / n: a configured roll is looked at before n, and n = 0 marks nothing
unfoldable pub at_every_roll : ℕ → Option Float → MarkRule
at_every_roll n None = cond (eqb n 0) Nothing (EveryStep (sample_step n))
at_every_roll n (Some roll) = AtRoll roll

-- ---- the bytes

-- the byte of row r at time j
unfoldable pub mark_at : Plan → MarkRule → ℕ → ℕ → ℕ
mark_at p rule r j = flag (marked_by (cell_of p r j) rule (config_of p r).tolerance_deg)

-- the byte of the cell of number k
unfoldable pub cell_mark : Plan → MarkRule → ℕ → ℕ
cell_mark p rule k = mark_at p rule (k / times_of p) (k % times_of p)

-- the named value of the cell of number k: its optimal roll, of a Free cell too
unfoldable pub cell_value : Plan → ℕ → Float
cell_value p k = optimal_at p (k / times_of p) (k % times_of p)

-- the named value of each cell, in a list that begins with them, lies from 0 up to but not at 360
abbrev pub ValuesInTurn : Plan → List Float → Type 0
ValuesInTurn p values = (k : ℕ) → k < cells_of p → InTurn (get_or values k nan)

-- ---- the calls: the plan's refusals, then 7, a lent output shorter than needed

-- 7: an output of length `room` has no place for each cell
unfoldable pub cells_short : Plan → ℕ → Bool
cells_short p room = ltb room (cells_of p)

-- *Masks, named values*: plan, 7; 0 for none. `said` is the number said in the place of 3, 0 in the calls that take no n.
unfoldable pub cells_refusal : Plan → ℕ → ℕ → ℕ
cells_refusal p said room =
    first (carried (plan_refusal p said false)
    ∷ (cells_short p room, 7)
    ∷ [])

-- what the call answers: the number that it refuses by, or accepted with 0
unfoldable pub cells_reply : Plan → ℕ → ℕ → Reply ℕ
cells_reply p said room = reply (cells_refusal p said room) 0

-- what a mask call leaves in the lent mask, by the rule that it makes of the configured roll
unfoldable pub mask_after : Plan → ℕ → (Option Float → MarkRule) → List ℕ → List ℕ
mask_after p said rule mask =
    unless_refused (cells_refusal p said (length mask)) (filled (cells_of p) (cell_mark p (rule p.configured)) mask) mask

-- what the call for named values leaves in the lent list
unfoldable pub values_after : Plan → List Float → List Float
values_after p values = unless_refused (cells_refusal p 0 (length values)) (filled (cells_of p) (cell_value p) values) values
