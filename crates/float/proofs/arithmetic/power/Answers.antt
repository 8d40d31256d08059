-- `float::arithmetic::power` meets its contract. Assumes nothing.
use Rattle.std.proofs.Common.{◌≡◌, ℕ, ◌*◌, ◌^◌, ◌<◌, false, sym, subst, arith}
use lib.Ieee.{binary64, of_bits}
use lib.Ieee.Exact.{HasValue}
use Rattle.float.specs.RootSteps.{magnitude}
use Rattle.float.proofs.Patterns.{value_of}
use Rattle.std.proofs.lemmas.Float.{not_nan_f64_bits}
use Rattle.float.proofs.Modulo.{low_power, high_power}
use Rattle.float.proofs.arithmetic.power.Goals as goal
use Rattle.float.proofs.arithmetic.power.Goals.{Joined-k-lt52, then-k-lt52, else-k-lt52}

-- the pattern, whichever it is
pattern : (c : Joined-k-lt52) → (c.if-k-lt52.result < 2047 * 2 ^ 52) × (magnitude c.if-k-lt52.result ≡ 2 ^ c.args.k)
pattern c =
    elim c.if-k-lt52.branch [
      | then-k-lt52 w ↦ subst (λ (p : ℕ). (p < 2047 * 2 ^ 52) × (magnitude p ≡ 2 ^ c.args.k)) (sym w.result-is) (low_power c.args.k w.if-k-lt52.true)
      | else-k-lt52 w ↦ subst (λ (p : ℕ). (p < 2047 * 2 ^ 52) × (magnitude p ≡ 2 ^ c.args.k)) (sym w.result-is) (high_power c.args.k w.if-k-lt52.false c.requires)
    ]

pub float_from_bits-result : goal.float_from_bits-result
float_from_bits-result c = let l = (pattern c).0 in not_nan_f64_bits c.if-k-lt52.result (omega arith)

pub returns : goal.returns
returns c = subst (λ (a : ℕ). HasValue (of_bits binary64 c.if-k-lt52.result) false a (2 ^ 1074)) (pattern c).1 (value_of c.if-k-lt52.result (pattern c).0)
