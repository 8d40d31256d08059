-- Section 4: the header. Definitions only. Assumes nothing.
use Rattle.std.specs.Prelude.{List, [], ◌∷◌, ◌++◌, ℕ, Float, Option, None, Some}
use Rattle.std.specs.Float.{binary64}
use Rattle.std.specs.Float.Ieee.{to_bits}
use Rattle.solar_roll.specs.Vectors.{Vector, x, y, z}
use Rattle.solar_roll.specs.Plan.{Plan, rows_of, times_of, head_tolerance, head_panel}
use Rattle.journal.specs.Hex.{hex_text}

-- targets, times and n (8 digits each), tolerance bits (16), 01 or 00 for a configured roll (2), its bits or zeros (16), the panel normal (3 of 16),
-- and byte 0a: 107 bytes
unfoldable pub header_text : ℕ → ℕ → ℕ → ℕ → ℕ → ℕ → ℕ → ℕ → ℕ → List ℕ
unfolding hex_text
header_text targets times n tolerance configured roll px py pz =
    hex_text 8 targets ++ (hex_text 8 times ++ (hex_text 8 n
    ++ (hex_text 16 tolerance ++ (hex_text 2 configured ++ (hex_text 16 roll
    ++ (hex_text 16 px ++ (hex_text 16 py ++ (hex_text 16 pz ++ (10 ∷ [])))))))))

-- 1 for a configured roll, else 0; its bits or 0
abbrev pub has_roll : Option Float → ℕ
has_roll None = 0
has_roll (Some roll) = 1

abbrev pub roll_bits : Option Float → ℕ
roll_bits None = 0
roll_bits (Some roll) = to_bits binary64 roll

-- the header of these settings: `to_bits` writes any NaN 7ff8000000000000
unfoldable pub settings_header : ℕ → ℕ → ℕ → Float → Option Float → Vector → List ℕ
unfolding header_text
settings_header targets times n tolerance configured panel =
    header_text targets times n (to_bits binary64 tolerance) (has_roll configured) (roll_bits configured)
    (to_bits binary64 (x panel)) (to_bits binary64 (y panel)) (to_bits binary64 (z panel))

-- the header of a plan with n samples
unfoldable pub header_of : Plan → ℕ → List ℕ
unfolding settings_header head_tolerance head_panel
header_of p n = settings_header (rows_of p) (times_of p) n (head_tolerance p) p.configured (head_panel p)
