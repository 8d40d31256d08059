-- Document 01's starred examples, as one conjunction about the definitions. Computed. Assumes nothing.
use mathlib.Core.Path.{◌≡◌, refl}
use mathlib.Core.List.{List, [], ◌∷◌, map}
use Prim.Native.Nat.{ℕ}
use lib.IntN.{ℤ, pos}
use lib.Ieee.{Float, binary64, of_bits, of_int, add, sub, mul, div, rem, neg, lt, le, eq}
use Rattle.float.specs.Root.{sqrt_of}
use Rattle.float.specs.Arithmetic.{zero·0, abs_of, rem_euclid, to_degrees, sign_bit_of, finite}
use Rattle.float.specs.Series.{coefficient, horner}
use Rattle.float.specs.Arctangent.{halved, series_angle, ratio, quadrant_angle, turned_angle, arctangent}
use Rattle.solar_roll.specs.Vectors.{Vector, vector, dot3, norm3, cross3, over3, normalize3, unwrap_or}
use Rattle.solar_roll.specs.Roll.{x_hat, y_hat, sun_unit, sun_along_boresight, panel_is_free, panel_angle, roll_is_unconstrained, perpendicular, pole_fallback, north, y_axis, body_axes, folded_roll, roll_between, roll_deg_in, solar_optimal_roll_deg, circular_diff_deg}
use Rattle.solar_roll.specs.Cell.{optimal_roll}
use Rattle.solar_roll.specs.declared.cell.CellRoll.TheVariants.{Free, At}
use Rattle.windows.specs.Runs.{run, visibility_runs}
use Rattle.windows.specs.Windows.{violation_windows}
use Rattle.windows.specs.declared.Window.{Window}

-- a whole number as an f64
abbrev number : ℕ → Float
number n = of_int binary64 (pos n)

-- where no observer is named, it is at 0
abbrev origin : Vector
origin = vector zero·0 zero·0 zero·0

-- of a window: first and last sample number, and the last flag
abbrev numbers : Window → ℕ × (ℕ × ℕ)
numbers w = (w.first, (w.last, w.is_last))

pub starred :
    -- "Difference: *(350, 10) 20; *(10, 350) 20; *(0, 180) 180."
    (circular_diff_deg (number 350) (number 10) ≡ number 20)
    × (circular_diff_deg (number 10) (number 350) ≡ number 20)
    × (circular_diff_deg (number 0) (number 180) ≡ number 180)
    -- "Root: *4 gives 2"
    × (sqrt_of (number 4) ≡ number 2)
    -- "Target [1,0,0], panel [0,1,0]: *Sun [0,1,0] 0, .. *Sun [1,0,0] Free."
    × (optimal_roll x_hat (sun_unit y_hat origin) y_hat ≡ At (number 0))
    × (optimal_roll x_hat (sun_unit x_hat origin) y_hat ≡ Free)
    -- "Violation runs: *01011 gives 1-1 and 3-4 (last)."
    × ((a b c d e : ℤ) (severities : List Float)
    → map numbers (violation_windows (0 ∷ 1 ∷ 0 ∷ 1 ∷ 1 ∷ []) (a ∷ b ∷ c ∷ d ∷ e ∷ []) severities) ≡ (1, (1, 0)) ∷ (3, (4, 1)) ∷ [])
    -- "Rule V: *01011 none; *10 gives 1-1; *0010 gives 0-1 and 3-3; *empty none."
    × (visibility_runs (0 ∷ 1 ∷ 0 ∷ 1 ∷ 1 ∷ []) ≡ [])
    × (visibility_runs (1 ∷ 0 ∷ []) ≡ run 1 1 ∷ [])
    × (visibility_runs (0 ∷ 0 ∷ 1 ∷ 0 ∷ []) ≡ run 0 1 ∷ run 3 3 ∷ [])
    × (visibility_runs [] ≡ [])
unfolding circular_diff_deg rem_euclid abs_of add sub mul div rem neg lt le eq of_int of_bits sqrt_of sun_unit optimal_roll roll_is_unconstrained sun_along_boresight panel_is_free panel_angle solar_optimal_roll_deg roll_deg_in roll_between folded_roll body_axes y_axis north perpendicular pole_fallback unwrap_or normalize3 over3 cross3 norm3 dot3 to_degrees arctangent quadrant_angle ratio turned_angle series_angle horner halved coefficient sign_bit_of finite visibility_runs violation_windows
starred = (refl, refl, refl, refl, refl, refl, (λ a b c d e severities. refl), refl, refl, refl, refl)
