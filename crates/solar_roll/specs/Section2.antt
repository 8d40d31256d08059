-- Section 2's sentences on a cell: each clause stands under document 01's words, `roll_range` under document 02's. The theorem `section2` (proofs/Section2) gives the record for each cell,
-- row i at time j, of every plan that is accepted (`plan_refusal .. ≡ 0`) and has a panel. Definitions only. Assumes nothing.
use Rattle.std.specs.Prelude.{◌≡◌, ◌⊎◌, ◌↔◌, true, false, ℕ, T, Float}
use Rattle.std.specs.Float.{nan, binary64}
use Rattle.std.specs.Float.Ieee.{fits, lt, le}
use Rattle.float.specs.Arithmetic.{◌⊖◌, zero·0, half_turn, finite}
use Rattle.solar_roll.specs.Roll.{sun_along_boresight, panel_is_free, InTurn, circular_diff_deg}
use Rattle.solar_roll.specs.Cell.{violates}
use Rattle.solar_roll.specs.Plan.{Plan, direction_of, config_of, sun_at, cell_of, optimal_at}
use Rattle.solar_roll.specs.declared.cell.CellRoll.TheVariants.{Free, At}

-- in 0 to 180
pub record InHalfTurn (x : Float) : Type 0 where
  pub low : le zero·0 x ≡ true
  pub high : le x half_turn ≡ true

-- a finite f64
pub record FiniteFloat (x : Float) : Type 0 where
  pub held : T (fits binary64 x)
  pub is_finite : finite x ≡ true

pub record Section2 (p : Plan) (i j : ℕ) : Type 0 where
  -- "Free exactly when |sun·target| > 1 - 1e-12 or the panel's y-z norm <= 1e-12"
  pub free : (cell_of p i j ≡ Free) ↔ ((sun_along_boresight (direction_of p i) (sun_at p j) ≡ true) ⊎ (panel_is_free (config_of p i).panel_normal ≡ true))
  -- "Otherwise the axes and roll of `solar_optimal_roll_deg`": At(roll)
  pub otherwise : (cell_of p i j ≡ Free → ⊥) → cell_of p i j ≡ At (optimal_at p i j)
  -- "it lies from 0 up to but not at 360" (document 02, Three), of a Free cell too
  pub roll_range : InTurn (optimal_at p i j)
  -- that roll is finite, and no finite roll minus it overflows (docs/DECISIONS.md, 6)
  pub roll_finite : finite (optimal_at p i j) ≡ true
  pub no_overflow : (roll : Float) → FiniteFloat roll → finite (roll ⊖ optimal_at p i j) ≡ true
  -- "`circular_diff_deg` for finite rolls lies in 0 to 180 where their subtraction does not overflow; else it is NaN."
  pub range : (a b : Float) → finite (a ⊖ b) ≡ true → InHalfTurn (circular_diff_deg a b)
  pub else_nan : (a b : Float) → finite (a ⊖ b) ≡ false → circular_diff_deg a b ≡ nan
  -- "an arctangent or difference of a non-finite number is NaN": the difference
  pub not_finite : (a b : Float) → (finite a ≡ false) ⊎ (finite b ≡ false) → circular_diff_deg a b ≡ nan
  -- "A cell is violated at a roll when it is not Free and the difference > tolerance."
  pub violated : (roll tolerance : Float)
      → (violates (cell_of p i j) roll tolerance ≡ true) ↔ ((cell_of p i j ≡ Free → ⊥) × (lt tolerance (circular_diff_deg roll (optimal_at p i j)) ≡ true))
  -- "a NaN in either violates nothing"
  pub nan_roll : (tolerance : Float) → violates (cell_of p i j) nan tolerance ≡ false
  pub nan_tolerance : (roll : Float) → violates (cell_of p i j) roll nan ≡ false
  -- "a tolerance below 0 violates every cell not Free (finite roll)"
  pub below_zero : (roll tolerance : Float) → FiniteFloat roll → lt tolerance zero·0 ≡ true → (cell_of p i j ≡ Free → ⊥)
      → violates (cell_of p i j) roll tolerance ≡ true
  -- "Ruled out: a tolerance met exactly counted as violated"
  pub met_exactly : (roll : Float) → violates (cell_of p i j) roll (circular_diff_deg roll (optimal_at p i j)) ≡ false
