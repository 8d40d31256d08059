-- The samples of a sweep: section 3's even ones, and document 02's request Five, a lent table of rolls. Definitions only. Assumes nothing.
use Rattle.std.specs.Prelude.{Bool, false, not, ◌&&◌, ◌||◌, List, [], ◌∷◌, ℕ, zero, suc, eqb, ltb, pos, Float, length, get_or}
use Rattle.std.specs.Float.{nan, binary64}
use Rattle.std.specs.Float.Ieee.{of_int, lt, le}
use Rattle.buffers.specs.Ranges.{tab, any_below}
use Rattle.buffers.specs.Refusal.{first}
use Rattle.float.specs.Arithmetic.{◌⊗◌, zero·0, full_turn}
use Rattle.solar_roll.specs.Roll.{sample_step}
use Rattle.solar_roll.specs.Plan.{most_samples}

-- ---- even samples

-- sample k of n is k times (360 / n)
unfoldable pub even_roll : ℕ → ℕ → Float
unfolding sample_step
even_roll n k = of_int binary64 (pos k) ⊗ sample_step n

unfoldable pub even_rolls : ℕ → List Float
unfolding tab even_roll
even_rolls n = tab n (even_roll n)

-- ---- a lent table

-- not within 0 to below 360: so for NaN
unfoldable pub not_in_turn : Float → Bool
not_in_turn a = not (le zero·0 a && lt a full_turn)

-- roll k of a table is not above the roll before it; the first has none before it
unfoldable pub not_above : List Float → ℕ → Bool
not_above rolls zero = false
not_above rolls (suc k) = not (lt (get_or rolls k nan) (get_or rolls (suc k) nan))

unfoldable pub bad_roll : List Float → ℕ → Bool
unfolding not_in_turn not_above
bad_roll rolls k = not_in_turn (get_or rolls k nan) || not_above rolls k

-- the number in the place of 3, 0 for none: 18, an empty table or one of over 3,600 rolls; then 19, a roll not within 0 to below 360, or not above the one
-- before it
unfoldable pub table_refusal : List Float → ℕ
unfolding first any_below bad_roll
table_refusal rolls =
    first ((eqb (length rolls) 0 || ltb most_samples (length rolls), 18)
    ∷ (any_below (length rolls) (bad_roll rolls), 19)
    ∷ [])
