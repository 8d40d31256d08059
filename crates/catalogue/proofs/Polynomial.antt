-- Polynomials with whole coefficients, the lowest first: their values, sums and products, and how far two of them lie apart. Assumes nothing.
use mathlib.Core.Path.{◌≡◌, sym, ap, ap₂, ◌∙◌}
use mathlib.Core.List.{List, [], ◌∷◌}
use Prim.Native.Nat.{ℕ, ◌+◌, ◌-◌, ◌*◌, ◌≤◌}
use native.Mathlib.Nat.{le_refl, add-le-add, mul-zero, mul-le-mul, mul-le-mul_left}
use native.Mathlib.Omega.{arith}
use Rattle.catalogue.proofs.Near.{Near}

-- the value at a
unfoldable pub at : List ℕ → ℕ → ℕ
at [] a = 0
at (c ∷ p) a = c + a * at p a

unfoldable pub plus : List ℕ → List ℕ → List ℕ
plus [] q = q
plus (c ∷ p) [] = c ∷ p
plus (c ∷ p) (d ∷ q) = (c + d) ∷ plus p q

unfoldable pub multiple : ℕ → List ℕ → List ℕ
multiple c [] = []
multiple c (d ∷ q) = (c * d) ∷ multiple c q

unfoldable pub product : List ℕ → List ℕ → List ℕ
product [] q = []
product (c ∷ p) q = plus (multiple c q) (0 ∷ product p q)

-- the coefficients of the one that the other lacks, both ways
unfoldable pub differences : List ℕ → List ℕ → List ℕ
differences [] q = q
differences (c ∷ p) [] = c ∷ p
differences (c ∷ p) (d ∷ q) = ((c - d) + (d - c)) ∷ differences p q

pub at_plus : (p q : List ℕ) (a : ℕ) → at (plus p q) a ≡ at p a + at q a
unfolding at plus
at_plus [] q a = omega arith
at_plus (c ∷ p) [] a = omega arith
at_plus (c ∷ p) (d ∷ q) a = ap (λ (x : ℕ). c + d + a * x) (at_plus p q a) ∙ law c d a (at p a) (at q a)
  where
    law : (c d a x y : ℕ) → c + d + a * (x + y) ≡ c + a * x + (d + a * y)
    law c d a x y = omega arith

pub at_multiple : (c : ℕ) (q : List ℕ) (a : ℕ) → at (multiple c q) a ≡ c * at q a
unfolding at multiple
at_multiple c [] a = sym (mul-zero c)
at_multiple c (d ∷ q) a = ap (λ (x : ℕ). c * d + a * x) (at_multiple c q a) ∙ law c d a (at q a)
  where
    law : (c d a x : ℕ) → c * d + a * (c * x) ≡ c * (d + a * x)
    law c d a x = omega arith

pub at_product : (p q : List ℕ) (a : ℕ) → at (product p q) a ≡ at p a * at q a
unfolding at product
at_product [] q a = omega arith
at_product (c ∷ p) q a = at_plus (multiple c q) (0 ∷ product p q) a ∙ ap₂ (λ (x y : ℕ). x + (0 + a * y)) (at_multiple c q a) (at_product p q a) ∙ law c a (at p a) (at q a)
  where
    law : (c a x y : ℕ) → c * y + (0 + a * (x * y)) ≡ (c + a * x) * y
    law c a x y = omega arith

-- a larger number gives no smaller value
pub at_mono : (p : List ℕ) (a b : ℕ) → a ≤ b → at p a ≤ at p b
unfolding at
at_mono [] a b h = le_refl 0
at_mono (c ∷ p) a b h = add-le-add (le_refl c) (mul-le-mul h (at_mono p a b h))

-- the values differ by that of what lies between the coefficients
pub at_near : (p q : List ℕ) (a : ℕ) → Near (at (differences p q) a) (at p a) (at q a)
unfolding at differences
at_near [] q a = record { over = omega arith; under = omega arith }
at_near (c ∷ p) [] a = record { over = omega arith; under = omega arith }
at_near (c ∷ p) (d ∷ q) a =
    let w = at_near p q a in
    let f : a * at p a ≤ a * (at q a + at (differences p q) a) = mul-le-mul_left a w.over in
    let g : a * at q a ≤ a * (at p a + at (differences p q) a) = mul-le-mul_left a w.under in
    record { over = omega arith; under = omega arith }
