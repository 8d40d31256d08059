-- A plan, and the roll that is asked for, as C lends them: lists, and numbers for the configured roll and the panel's normal.
-- Definitions only. Assumes nothing.
use Rattle.std.specs.Prelude.{cond, List, ℕ, eqb, Float, Option, None, Some}
use Rattle.solar_roll.specs.Vectors.{vector}
use Rattle.solar_roll.specs.Plan.{Plan, plan_of}
use Rattle.solar_roll.specs.declared.cell.EvaluationRoll.{EvaluationRoll}
use Rattle.solar_roll.specs.declared.cell.EvaluationRoll.TheVariants.{Sweep, Fixed}

-- has_roll 0: none, and roll_deg is ignored; else roll_deg is the configured roll
unfoldable pub configured : ℕ → Float → Option Float
configured has_roll roll = cond (eqb has_roll 0) None (Some roll)

-- a plan of one panel
abbrev pub lent_plan : List Float → List Float → List Float → List Float → ℕ → Float → Float → Float → Float → Plan
lent_plan targets suns observers tolerances has_roll roll panelX panelY panelZ =
    plan_of targets suns observers tolerances (configured has_roll roll) (vector panelX panelY panelZ)

-- fixed 0: a sweep's roll; else a fixed one
unfoldable pub asked : ℕ → Float → EvaluationRoll
asked fixed roll = cond (eqb fixed 0) (Sweep roll) (Fixed roll)
