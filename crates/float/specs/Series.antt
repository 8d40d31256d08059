-- A series of nine terms whose signs alternate, by Horner's rule from the highest: section 1's arctangent, and the sine and the cosine of document 02's
-- request One. Definitions only. Assumes nothing.
use Rattle.std.specs.Prelude.{ℕ, zero, suc, ◌-◌, ◌%◌, cond, pos, ◌==◌, Float, List, get_or}
use Rattle.std.specs.Float.{nan, binary64}
use Rattle.std.specs.Float.Ieee.{neg, of_int}
use Rattle.float.specs.Arithmetic.{◌⊕◌, ◌⊗◌, ◌⊘◌, one}

-- c(k) = 1 / d(k), negated for odd k; d gives the divisors
unfoldable pub coefficient : (ℕ → ℕ) → ℕ → Float
coefficient d k = let c = one ⊘ of_int binary64 (pos (d k)) in cond (k % 2 == 1) (neg c) c

-- Horner's rule, from the coefficients c: p after j steps. It starts as c(8), and for k from 7 down becomes c(k) + t·p
unfoldable pub horner_rule : (ℕ → Float) → Float → ℕ → Float
horner_rule c t zero = c 8
horner_rule c t (suc j) = c (7 - j) ⊕ t ⊗ horner_rule c t j

-- p after j steps, with the coefficients of the divisors d
unfoldable pub horner : (ℕ → ℕ) → Float → ℕ → Float
unfolding horner_rule
horner d t j = horner_rule (coefficient d) t j

-- p after all eight steps, with the coefficients c(0) to c(8) of a list
abbrev pub series_at : List Float → Float → Float
series_at c t = horner_rule (λ (k : ℕ). get_or c k nan) t 8
