-- Which cells are marked and with which severity, by computation, of cells whose optimal roll is 90; and what each call answers, of the plan of one target,
-- [1, 0, 0], and one Sun, [0, 1, 0]. Assumes nothing.
use mathlib.Core.Path.{◌≡◌, refl}
use mathlib.Core.Bool.{true, false}
use mathlib.Core.List.{[], ◌∷◌}
use Prim.Native.Nat.{ℕ}
use lib.IntN.{pos}
use lib.Ieee.{Float, binary64, of_bits, of_int, add, sub, mul, div, rem, neg, lt, le}
use Rattle.buffers.specs.Ranges.{any, any_below}
use Rattle.buffers.specs.Refusal.{first, carried, refused, accepted, reply}
use Rattle.float.specs.Arithmetic.{zero·0, abs_of, rem_euclid}
use Rattle.solar_roll.specs.Vectors.{vector, dot3, triple}
use Rattle.solar_roll.specs.Roll.{x_hat, y_hat, circular_diff_deg, sample_step}
use Rattle.solar_roll.specs.Cell.{violates, in_force, bad_position, bad_direction, too_large, not_unit, any_not_unit, direction_refusal, numbers_refusal}
use Rattle.solar_roll.specs.Plan.{Plan, plan_of, plan_refusal, sizes_refusal, samples_or_none_refusal, unlike_lengths, too_many}
use Rattle.solar_roll.specs.declared.cell.CellRoll.{CellRoll}
use Rattle.solar_roll.specs.declared.cell.CellRoll.TheVariants.{Free, At}
use Rattle.std.specs.Prelude.{None, Some}
use Rattle.solar_roll.specs.declared.cell.EvaluationRoll.TheVariants.{Sweep, Fixed}
use Rattle.solar_masks.specs.Mask.{step_distance, misses_steps, marked_by, at_roll, at_configured, at_every_roll, cells_short, cells_refusal, cells_reply}
use Rattle.solar_masks.specs.Row.{excess, severity, row_short, row_refusal, row_reply}
use Rattle.solar_masks.specs.Field.{field_short, field_refusal, field_reply}

-- a whole number as an f64
abbrev number : ℕ → Float
number n = of_int binary64 (pos n)

-- a cell whose optimal roll is 90
abbrev ninety : CellRoll
ninety = At (number 90)

pub marks :
    -- at the configured roll, 200: 110 away; without one nothing is marked, nor is a Free cell. A tolerance of 110 is met exactly
    (marked_by ninety (at_configured (Some (number 200))) (number 109) ≡ true) ×
    (marked_by ninety (at_configured (Some (number 200))) (number 110) ≡ false) ×
    (marked_by ninety (at_configured None) (number 10) ≡ false) ×
    (marked_by Free (at_configured (Some (number 200))) (number 10) ≡ false) ×
    -- at the roll 95 that is asked for; a configured one overrides Sweep, never Fixed
    (marked_by ninety (at_roll (Sweep (number 95)) None) (number 10) ≡ false) ×
    (marked_by ninety (at_roll (Sweep (number 95)) (Some (number 200))) (number 109) ≡ true) ×
    (marked_by ninety (at_roll (Fixed (number 95)) (Some (number 200))) (number 10) ≡ false) ×
    -- at every one of 9 rolls: 80 is 10 away; of 15: 96 is 6 away
    (marked_by ninety (at_every_roll 9 None) (number 9) ≡ true) ×
    (marked_by ninety (at_every_roll 9 None) (number 10) ≡ false) ×
    (marked_by ninety (at_every_roll 15 None) (number 5) ≡ true) ×
    (marked_by ninety (at_every_roll 15 None) (number 6) ≡ false) ×
    (marked_by Free (at_every_roll 9 None) (number 1) ≡ false) ×
    -- 0 rolls mark nothing, and a configured roll is looked at before n
    (marked_by ninety (at_every_roll 0 None) (number 10) ≡ false) ×
    (marked_by ninety (at_every_roll 0 (Some (number 200))) (number 109) ≡ true) ×
    (marked_by ninety (at_every_roll 9 (Some (number 95))) (number 9) ≡ false)
unfolding marked_by at_roll at_configured at_every_roll misses_steps step_distance sample_step violates in_force circular_diff_deg rem_euclid abs_of add sub div rem neg lt of_int of_bits
marks = (refl, refl, refl, refl, refl, refl, refl, refl, refl, refl, refl, refl, refl, refl, refl)

-- by how much the roll 200 is too far; zero where it is not, of a Free cell, and without a configured roll
pub severities :
    (severity ninety (Some (number 200)) (number 10) ≡ number 100) ×
    (severity ninety (Some (number 200)) (number 110) ≡ number 0) ×
    (severity Free (Some (number 200)) (number 10) ≡ number 0) ×
    (severity ninety None (number 10) ≡ number 0)
unfolding severity excess violates circular_diff_deg rem_euclid abs_of add sub rem neg lt of_int of_bits
severities = (refl, refl, refl, refl)

-- ---- what the calls answer

abbrev plan : Plan
plan = plan_of x_hat y_hat (vector zero·0 zero·0 zero·0) (number 10 ∷ []) None y_hat

-- the plan's refusals, 3 among them, before 7
pub masks_answer :
    (cells_reply plan (samples_or_none_refusal 0) 1 ≡ accepted 0) ×
    (cells_reply plan (samples_or_none_refusal 3600) 0 ≡ refused 7) ×
    (cells_reply plan (samples_or_none_refusal 3601) 0 ≡ refused 3)
unfolding cells_reply cells_refusal cells_short reply samples_or_none_refusal plan_refusal unlike_lengths too_many first carried any any_below bad_position bad_direction too_large not_unit any_not_unit direction_refusal numbers_refusal sizes_refusal triple dot3 abs_of add sub mul le of_int of_bits
masks_answer = (refl, refl, refl)

-- 9, no such row, before 7, of the mask or the severities
pub rows_answer :
    (row_reply plan 0 1 1 ≡ accepted 0) ×
    (row_reply plan 1 0 0 ≡ refused 9) ×
    (row_reply plan 0 0 1 ≡ refused 7) ×
    (row_reply plan 0 1 0 ≡ refused 7)
unfolding row_reply row_refusal row_short reply plan_refusal unlike_lengths too_many first carried any any_below bad_position bad_direction too_large not_unit any_not_unit direction_refusal numbers_refusal sizes_refusal triple dot3 abs_of add sub mul le of_int of_bits
rows_answer = (refl, refl, refl, refl)

-- 3 before 9, no such time, before 7
pub fields_answer :
    (field_reply plan 0 0 1 ≡ accepted 0) ×
    (field_reply plan (samples_or_none_refusal 3601) 1 0 ≡ refused 3) ×
    (field_reply plan 0 1 0 ≡ refused 9) ×
    (field_reply plan 0 0 0 ≡ refused 7)
unfolding field_reply field_refusal field_short reply samples_or_none_refusal plan_refusal unlike_lengths too_many first carried any any_below bad_position bad_direction too_large not_unit any_not_unit direction_refusal numbers_refusal sizes_refusal triple dot3 abs_of add sub mul le of_int of_bits
fields_answer = (refl, refl, refl, refl)
