-- Each even sample is a finite number, and so is its difference from the roll 0, so the arc between them lies in 0 to 180. Assumes nothing.
use mathlib.Core.Path.{refl}
use mathlib.Core.Bool.{false}
use Prim.Native.Nat.{ℕ, ◌≤◌, ◌<◌}
use native.Mathlib.Omega.{arith}
use lib.Dec.{lit<, lit≤}
use lib.IntN.{pos}
use lib.Ieee.{binary64, of_int, of_bits}
use Rattle.float.specs.Arithmetic.{zero·0, full_turn}
use Rattle.float.proofs.Bounds.{Within, within_round, within_sub, within_mul, within_div, within_finite, least_round, least_beyond}
use Rattle.solar_roll.specs.Roll.{sample_step, circular_diff_deg}
use Rattle.solar_roll.specs.Plan.{most_samples}
use Rattle.solar_roll.specs.Section2.{InHalfTurn}
use Rattle.solar_roll.proofs.Difference.{difference_range}
use Rattle.roll_sweep.specs.Rolls.{even_roll}

whole_within : (k : ℕ) → k ≤ most_samples → Within 12 (of_int binary64 (pos k))
unfolding of_int
whole_within k h = within_round false k 1 12 (lit< tt) (lit< tt) (omega arith)

turn_within : Within 9 full_turn
unfolding of_bits
turn_within = record { s = false; m = 45; e = pos 3; is = refl; size_le = lit≤ tt }

zero_within : Within 21 zero·0
unfolding of_bits
zero_within = record { s = false; m = 0; e = pos 0; is = refl; size_le = lit≤ tt }

even_within : (n k : ℕ) → 1 ≤ n → n ≤ most_samples → k < n → Within 21 (even_roll n k)
unfolding even_roll sample_step of_int
even_within n k h m l =
    within_mul 12 9 (lit< tt) (whole_within k (omega arith))
    (within_div 9 0 (lit< tt) turn_within (least_beyond (least_round n 1 12 (lit< tt) (lit< tt) (omega arith) h)))

pub even_arc : (n k : ℕ) → 1 ≤ n → n ≤ most_samples → k < n → InHalfTurn (circular_diff_deg (even_roll n k) zero·0)
even_arc n k h m l = difference_range (even_roll n k) zero·0 (within_finite 22 (within_sub 21 (lit< tt) (even_within n k h m l) zero_within))
