-- Whole numbers that are near to each other: `Near e p q` says that p and q differ by e at most. Assumes nothing.
use mathlib.Core.Path.{◌≡◌}
use Prim.Native.Nat.{ℕ, ◌+◌, ◌*◌, ◌<◌, ◌≤◌}
use native.Mathlib.Nat.{mul_comm, mul-le-mul_left, mul-le-mul_right, le_of_mul-le-mul_left}
use native.Mathlib.Omega.{arith}

pub record Near (e p q : ℕ) : Type 0 where
  pub over : p ≤ q + e
  pub under : q ≤ p + e

-- c times both, and back
pub scaled : (c e p q : ℕ) → Near e p q → Near (c * e) (c * p) (c * q)
scaled c e p q w =
    let a : c * p ≤ c * (q + e) = mul-le-mul_left c w.over in
    let b : c * q ≤ c * (p + e) = mul-le-mul_left c w.under in
    record { over = omega arith; under = omega arith }

pub shorter : (c e p q : ℕ) → 0 < c → Near (c * e) (c * p) (c * q) → Near e p q
shorter c e p q C w = record {
  over = le_of_mul-le-mul_left {m = p} {n = q + e} {k = c} (omega (arith, w.over)) C;
  under = le_of_mul-le-mul_left {m = q} {n = p + e} {k = c} (omega (arith, w.under)) C;
}

-- the same in other words
pub reworded : {e f p r q s : ℕ} → e ≡ f → p ≡ r → q ≡ s → Near e p q → Near f r s
reworded i j k w = record { over = omega (arith, w.over); under = omega (arith, w.under) }

-- squares of numbers of at most m
pub square : (e p q m : ℕ) → p ≤ m → q ≤ m → Near e p q → Near (2 * (e * m)) (p * p) (q * q)
square e p q m P Q w =
    let a : p * p ≤ p * (q + e) = mul-le-mul_left p w.over in
    let b : p * q ≤ (q + e) * q = mul-le-mul_right q w.over in
    let c : q * q ≤ q * (p + e) = mul-le-mul_left q w.under in
    let d : q * p ≤ (p + e) * p = mul-le-mul_right p w.under in
    let f : e * p ≤ e * m = mul-le-mul_left e P in
    let g : e * q ≤ e * m = mul-le-mul_left e Q in
    record { over = omega (arith, mul_comm p q); under = omega (arith, mul_comm p q) }
