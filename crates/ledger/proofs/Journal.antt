-- Document 01's journal: the header and the line of its plan, and a list of entries for that plan. Computed. Assumes nothing.
use mathlib.Core.Path.{◌≡◌, refl}
use mathlib.Core.List.{List, [], ◌∷◌, ◌++◌}
use Prim.Native.Nat.{ℕ}
use lib.Count.{ones}
use lib.IntN.{pos}
use lib.ListN.{take, replicate}
use lib.Ieee.{binary64, of_bits, to_bits, of_int, add, sub, mul, div, rem, neg, lt, le, eq}
use Rattle.buffers.specs.Ranges.{any, any_below}
use Rattle.buffers.specs.Refusal.{first, carried, refused, accepted}
use Rattle.float.specs.Root.{sqrt_of}
use Rattle.float.specs.Arithmetic.{zero·0, abs_of, rem_euclid, to_degrees, sign_bit_of, finite}
use Rattle.float.specs.Series.{coefficient, horner}
use Rattle.float.specs.Arctangent.{halved, series_angle, ratio, quadrant_angle, turned_angle, arctangent}
use Rattle.solar_roll.specs.Vectors.{Vector, vector, dot3, norm3, cross3, over3, normalize3, unwrap_or}
use Rattle.solar_roll.specs.Roll.{x_hat, y_hat, z_hat, sun_unit, sun_along_boresight, panel_is_free, panel_angle, roll_is_unconstrained, perpendicular, pole_fallback, north, y_axis, body_axes, folded_roll, roll_between, roll_deg_in, solar_optimal_roll_deg, circular_diff_deg}
use Rattle.solar_roll.specs.Cell.{optimal_roll, violates, in_force, bad_position, bad_direction, too_large, not_unit, any_not_unit, direction_refusal, numbers_refusal}
use Rattle.solar_roll.specs.Plan.{Plan, plan_of, plan_refusal, sizes_refusal, samples_refusal, unlike_lengths, too_many, triple, row_direction, row_panel, row_config, sun_at, cell_of, violates_at, head_tolerance, head_panel}
use Rattle.std.specs.Prelude.{None}
use Rattle.journal.specs.Hex.{hex_text}
use Rattle.journal.specs.Lines.{line_of}
use Rattle.journal.specs.Header.{header_of}
use Rattle.journal.specs.Plan.{sweep_of, even_sweep}
use Rattle.roll_sweep.specs.Rolls.{even_roll, even_rolls}
use Rattle.ledger.specs.Machine.{begin, work, cut, recover, collect, power_up, done, gathered, trace}

-- ---- "Journal for that target and panel, Suns [0,1,0] then [0,0,1] from observer 0, tolerance 10, n = 1, no configured roll"

abbrev origin : Vector
origin = vector zero·0 zero·0 zero·0

abbrev plan : Plan
plan = plan_of x_hat (y_hat ++ z_hat) (origin ++ origin) (of_int binary64 (pos 10) ∷ []) None y_hat

-- "Header fields: 1, 2, 1 in 8 digits each; 4024000000000000; 00; 16 zeros; 16 zeros; 3ff0000000000000; 16 zeros"
abbrev header : List ℕ
header =
    hex_text 8 1 ++ hex_text 8 2 ++ hex_text 8 1 ++ hex_text 16 0x4024000000000000 ++ hex_text 2 0 ++ hex_text 16 0
    ++ hex_text 16 0 ++ hex_text 16 0x3ff0000000000000 ++ hex_text 16 0 ++ (10 ∷ [])

-- chunk 0, mask 2, probes 2
abbrev line : List ℕ
line = hex_text 8 0 ++ hex_text 16 2 ++ hex_text 8 2 ++ (10 ∷ [])

pub example_header : header_of plan 1 ≡ header
unfolding header_of head_tolerance head_panel triple to_bits of_int of_bits
example_header = refl

pub example_line : line_of (even_sweep plan 1) 0 ≡ line
unfolding line_of sweep_of even_rolls even_roll triple row_direction row_panel row_config sun_at cell_of violates_at violates in_force circular_diff_deg rem_euclid abs_of add sub mul div rem neg lt le eq of_int of_bits sqrt_of sun_unit optimal_roll roll_is_unconstrained sun_along_boresight panel_is_free panel_angle solar_optimal_roll_deg roll_deg_in roll_between folded_roll body_axes y_axis north perpendicular pole_fallback unwrap_or normalize3 over3 cross3 norm3 dot3 to_degrees arctangent quadrant_angle ratio turned_angle series_angle horner halved coefficient sign_bit_of finite
example_line = refl

-- ---- a list of entries, from an empty journal: every call is lent the plan, and 200 bytes beyond J

abbrev room : List ℕ
room = replicate 200 7

-- begin, a work that is cut at its fifth byte, a work and a collect refused for the tail, recover, work, the same work again, collect
pub example_trace : trace (even_sweep plan 1) (begin room ∷ work 0 room ∷ cut 5 ∷ work 0 room ∷ collect room room ∷ recover room ∷ work 0 room ∷ work 0 room ∷ collect room (9 ∷ 9 ∷ 9 ∷ []) ∷ []) power_up
    ≡ record { reply = accepted done; bytes = header }
    ∷ record { reply = accepted done; bytes = header ++ line }
    ∷ record { reply = accepted done; bytes = header ++ take 5 line }
    ∷ record { reply = refused 12; bytes = header ++ take 5 line }
    ∷ record { reply = refused 12; bytes = header ++ take 5 line }
    ∷ record { reply = accepted done; bytes = header }
    ∷ record { reply = accepted done; bytes = header ++ line }
    ∷ record { reply = refused 10; bytes = header ++ line }
    ∷ record { reply = accepted (gathered (0 ∷ 1 ∷ []) 2); bytes = header ++ line }
    ∷ []
unfolding trace hex_text ones header_of head_tolerance head_panel to_bits plan_refusal samples_refusal unlike_lengths too_many first carried any any_below bad_position bad_direction too_large not_unit any_not_unit direction_refusal numbers_refusal sizes_refusal sweep_of even_rolls even_roll triple row_direction row_panel row_config sun_at cell_of violates_at violates in_force circular_diff_deg rem_euclid abs_of add sub mul div rem neg lt le eq of_int of_bits sqrt_of sun_unit optimal_roll roll_is_unconstrained sun_along_boresight panel_is_free panel_angle solar_optimal_roll_deg roll_deg_in roll_between folded_roll body_axes y_axis north perpendicular pole_fallback unwrap_or normalize3 over3 cross3 norm3 dot3 to_degrees arctangent quadrant_angle ratio turned_angle series_angle horner halved coefficient sign_bit_of finite
example_trace = refl
