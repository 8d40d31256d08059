-- Section 2: the answer of one cell, when a roll violates it, and what is refused of numbers: of four triples, or of a plan's flat lists. 20 is document
-- 02's (Seven). Definitions only. Assumes nothing.
use Rattle.std.specs.Prelude.{Bool, false, cond, not, ◌||◌, List, [], ◌∷◌, ℕ, Float, Option, None, Some}
use Rattle.std.specs.Float.{binary64}
use Rattle.std.specs.Float.Ieee.{lt, le, of_bits}
use Rattle.buffers.specs.Ranges.{any, any_below}
use Rattle.buffers.specs.Refusal.{first, carried, Reply, refused, accepted}
use Rattle.float.specs.Arithmetic.{◌⊖◌, one, abs_of}
use Rattle.solar_roll.specs.Vectors.{Vector, dot3, count, triple}
use Rattle.solar_roll.specs.Roll.{Axes, axis, sun_along_boresight, roll_is_unconstrained, roll_deg_in, solar_optimal_roll_deg, circular_diff_deg}
use Rattle.solar_roll.specs.declared.roll.Panel.{Panel}
use Rattle.solar_roll.specs.declared.cell.CellRoll.{CellRoll}
use Rattle.solar_roll.specs.declared.cell.CellRoll.TheVariants.{Free, At, Refused}
use Rattle.solar_roll.specs.declared.cell.EvaluationRoll.{EvaluationRoll}
use Rattle.solar_roll.specs.declared.cell.EvaluationRoll.TheVariants.{Sweep, Fixed}

-- ---- the answer of a cell, document 01's enum: Free, or At(roll)

-- of a target, the Sun's unit and the panel's normal: Free where no roll is better than another, else At the optimal roll
unfoldable pub optimal_roll : Vector → Vector → Vector → CellRoll
optimal_roll target sun normal = cond (roll_is_unconstrained target sun normal) Free (At (solar_optimal_roll_deg target sun normal))

-- the number and the value of each case of the answer
unfoldable pub cell_reply : CellRoll → Reply CellRoll
cell_reply Free = accepted Free
cell_reply (At roll) = accepted (At roll)
cell_reply (Refused k) = refused k

-- ---- violated at a roll

-- not Free, and the difference of the roll and the optimal roll > tolerance
unfoldable pub violates : CellRoll → Float → Float → Bool
violates Free roll tolerance = false
violates (At optimal) roll tolerance = lt tolerance (circular_diff_deg roll optimal)
violates (Refused k) roll tolerance = false

-- the roll that counts, of the one that is asked for and the one that is configured: a configured roll overrides Sweep, never Fixed
unfoldable pub in_force : EvaluationRoll → Option Float → Float
in_force (Sweep roll) None = roll
in_force (Sweep roll) (Some configured) = configured
in_force (Fixed roll) configured = roll

-- ---- the tests of numbers, of a triple or of a flat list of triples

-- 1e100, the largest size of a position's or a panel's number
abbrev pub LIMIT : Float
LIMIT = of_bits binary64 0x54b2_49ad_2594_c37d

-- over the limit in size, or a NaN
unfoldable pub too_large : Float → Float → Bool
too_large limit a = not (le (abs_of a) limit)

-- 4, and 6 of the panel: a number not finite or over 1e100 in size
unfoldable pub bad_position : List Float → Bool
bad_position = any (too_large LIMIT)

-- 5: a component not within -1 to 1
unfoldable pub bad_direction : List Float → Bool
bad_direction = any (too_large one)

-- a direction's squared length, summed left to right
abbrev pub squared_length : Vector → Float
squared_length v = dot3 v v

-- 1e-9
abbrev pub UNIT_TOLERANCE : Float
UNIT_TOLERANCE = of_bits binary64 0x3e11_2e0b_e826_d695

-- the squared length is not within 1e-9 of 1: so for NaN
unfoldable pub not_unit : Vector → Bool
not_unit v = not (le (abs_of (squared_length v ⊖ one)) UNIT_TOLERANCE)

-- 20: a triple of a flat list is not a unit vector
unfoldable pub any_not_unit : List Float → Bool
any_not_unit targets = any_below (count targets) (λ i. not_unit (triple targets i))

-- what is refused of directions, a flat list of triples or one triple: 5 of any before 20 of any; 0 for none
unfoldable pub direction_refusal : List Float → ℕ
direction_refusal targets = first ((bad_direction targets, 5) ∷ (any_not_unit targets, 20) ∷ [])

-- *One cell*, four triples, and a plan's lists, which are flat lists of triples: 4 of the Sun and the observer, 5 and 20 of the target, 6 of the
-- panel; 0 for none
unfoldable pub numbers_refusal : List Float → List Float → List Float → List Float → ℕ
numbers_refusal targets suns observers panels =
    first ((bad_position suns || bad_position observers, 4)
    ∷ carried (direction_refusal targets)
    ∷ (bad_position panels, 6)
    ∷ [])

-- ---- the answer from what cells share, which the code works out

-- from a target's axes, the Sun's unit, the panel and the optimal roll
unfoldable pub free_or_at : Axes → Vector → Panel → Float → CellRoll
free_or_at axes sun panel roll = cond (sun_along_boresight (axis 0 axes) sun || panel.free) Free (At roll)

-- the same with the optimal roll of these
unfoldable pub roll_in : Axes → Vector → Panel → CellRoll
unfolding free_or_at
roll_in axes sun panel = free_or_at axes sun panel (roll_deg_in axes sun panel.angle)
