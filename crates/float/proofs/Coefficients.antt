-- The three tables of coefficients are those of the definitions: each literal is 1 / (2k + 1), 1 / (2k + 1)! or 1 / (2k)!, rounded, and negated for odd k. Assumes nothing.
use Rattle.std.proofs.Common.{◌≡◌, refl}
use lib.Ieee.{Float, of_bits, neg, div, round, of_int}
use Rattle.float.specs.declared.arctangent.TheConstants.{ODD_NUMBERS}
use Rattle.float.specs.declared.trigonometry.TheConstants.{SINE, COSINE}
use Rattle.float.specs.Series.{coefficient, horner, series_at}
use Rattle.float.specs.Arctangent.{odd_number}
use Rattle.float.specs.Trigonometry.{factorial, sine_divisor, cosine_divisor}

pub arctangent_series : (t : Float) → series_at ODD_NUMBERS t ≡ horner odd_number t 8
unfolding horner coefficient of_bits neg div round of_int
arctangent_series t = refl

pub sine_series : (t : Float) → series_at SINE t ≡ horner sine_divisor t 8
unfolding horner coefficient sine_divisor factorial of_bits neg div round of_int
sine_series t = refl

pub cosine_series : (t : Float) → series_at COSINE t ≡ horner cosine_divisor t 8
unfolding horner coefficient cosine_divisor factorial of_bits neg div round of_int
cosine_series t = refl
