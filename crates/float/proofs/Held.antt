-- Values that a format holds: what `fits` says of one, that a number is held in one way, and that `round` leaves it as it is. Assumes nothing.
use Rattle.std.proofs.Common.{◌≡◌, ℕ, zero, suc, ◌+◌, ◌-◌, ◌*◌, ◌/◌, ◌%◌, ◌^◌, ◌<◌, ◌≤◌, Bool, cond, ◌&&◌, T, eqb, ltb, leb, ℤ, pos, negsuc, sym, refl, ap, ◌∙◌, subst, lt_of_lt_of_le, le_of_suc-le-suc, mul_assoc, add_comm, lt_of_not-le, zero-mul, mul-one, mul_right_comm, not-le_of_lt, arith, ltb→lt, leb→le, pow_pos, pow_mono, pow-add, shl_lt}
use native.Mathlib.Nat.{eq_of_mul-eq-mul_right}
use lib.Pow.{pow-lt}
use lib.Ieee.{Float, nan, inf, fin, Format, prec, emax, low, up, down, size, round, fits, to_bits, of_bits, top, hid}
use lib.Ieee.Digits.{back}
use lib.Ieee.Fits.{reach, and_l, and_r, down_pos, round-fits}
use lib.Ieee.Bits.{of_bits-to_bits}
use lib.Ieee.Exact.{HasValue, round_exact}
use lib.Ieee.Nearest.{div_same}

-- equal fractions, crosswise
cross : (X Y D G a c : ℕ) → 0 < c → X * c ≡ a * D → Y * c ≡ a * G → X * G ≡ Y * D
cross X Y D G a c p v w =
    eq_of_mul-eq-mul_right c p (X * G) (Y * D)
    (mul_right_comm X G c ∙ ap (λ (x : ℕ). x * G) v ∙ mul_right_comm a D G ∙ ap (λ (x : ℕ). x * D) (sym w) ∙ mul_right_comm Y c D)

-- the bits are those of the sign and of the magnitude in units of the smallest value
bits : Format → Bool → ℕ → ℕ
bits f s n = let k = size n - prec f in cond s (top f) 0 + k * hid f + n / 2 ^ k

same_bits : (f : Format) (s : Bool) (m n : ℕ) (e g : ℤ) → m * up e * down g ≡ n * up g * down e → to_bits f (fin s m e) ≡ to_bits f (fin s n g)
unfolding to_bits bits
same_bits f s m n e g h =
    let l = 2 ^ low f in
    ap (bits f s)
    (div_same (m * up e * l) (down e) (n * up g * l) (down g) (down_pos e) (down_pos g)
    (mul_right_comm (m * up e) l (down g) ∙ ap (λ (x : ℕ). x * l) h ∙ mul_right_comm (n * up g) (down e) l))

-- a format holds a value in one way
pub value_unique : (f : Format) (x y : Float) (s : Bool) (a c : ℕ) → 0 < c → T (fits f x) → T (fits f y) → HasValue x s a c → HasValue y s a c → x ≡ y
value_unique f nan y s a c p q r v w = absurd v
value_unique f (inf t) y s a c p q r v w = absurd v
value_unique f (fin t m e) nan s a c p q r v w = absurd w
value_unique f (fin t m e) (inf u) s a c p q r v w = absurd w
value_unique f (fin t m e) (fin u n g) s a c p q r v w =
    sym (of_bits-to_bits f (fin t m e) q)
    ∙ ap (of_bits f)
    (ap (λ (z : Bool). to_bits f (fin z m e)) (v.0 ∙ sym w.0) ∙ same_bits f u m n e g (cross (m * up e) (n * up g) (down e) (down g) a c p v.1 w.1))
    ∙ of_bits-to_bits f (fin u n g) r

-- ---- `round` at a value that the format holds

-- what `fits` says of a value that is not zero
module _ (f : Format) (s : Bool) (m : ℕ) (e : ℤ) (h : T (fits f (fin s (suc m) e))) where
  pub held_digits : suc m < 2 ^ prec f
  unfolding fits
  held_digits =
      ltb→lt (suc m) (2 ^ prec f) (and_r (eqb (suc m % 2) 1) (ltb (suc m) (2 ^ prec f)) (and_l (eqb (suc m % 2) 1 && ltb (suc m) (2 ^ prec f)) (leb (down e) (2 ^ low f))
      (and_l (eqb (suc m % 2) 1 && ltb (suc m) (2 ^ prec f) && leb (down e) (2 ^ low f)) (ltb (suc m * up e) (2 ^ suc (emax f) * down e)) h)))

  pub held_least : down e ≤ 2 ^ low f
  unfolding fits
  held_least =
      leb→le (down e) (2 ^ low f) (and_r (eqb (suc m % 2) 1 && ltb (suc m) (2 ^ prec f)) (leb (down e) (2 ^ low f))
      (and_l (eqb (suc m % 2) 1 && ltb (suc m) (2 ^ prec f) && leb (down e) (2 ^ low f)) (ltb (suc m * up e) (2 ^ suc (emax f) * down e)) h))

  pub held_bound : suc m * up e < 2 ^ suc (emax f) * down e
  unfolding fits
  held_bound =
      ltb→lt (suc m * up e) (2 ^ suc (emax f) * down e) (and_r (eqb (suc m % 2) 1 && ltb (suc m) (2 ^ prec f) && leb (down e) (2 ^ low f)) (ltb (suc m * up e) (2 ^ suc (emax f) * down e)) h)

pub exponent_le : (i j : ℕ) → 2 ^ i ≤ 2 ^ j → i ≤ j
exponent_le i j h = le_of_suc-le-suc (lt_of_not-le {n = suc j} {m = i} (λ g. not-le_of_lt (pow-lt g) h))

own_value : (f : Format) (s : Bool) (m : ℕ) (e : ℤ) → T (fits f (fin s m e)) → HasValue (round f s (m * up e) (down e)) s (m * up e) (down e)
own_value f s zero e h = round_exact f s (zero * up e) (down e) 0 0 (down_pos e) (pow_pos (prec f)) (pow_pos (low f + suc (emax f))) (simp zero-mul)
own_value f s (suc m) (pos k) h =
    let l = low f in
    let e1 : suc m * 2 ^ k * 2 ^ l ≡ suc m * 2 ^ (k + l) = mul_assoc (suc m) (2 ^ k) (2 ^ l) ∙ ap (λ (x : ℕ). suc m * x) (sym (pow-add 2 k l)) in
    let b : suc m * 2 ^ k < 2 ^ suc (emax f) = subst (λ (x : ℕ). suc m * 2 ^ k < x) (mul-one (2 ^ suc (emax f))) (held_bound f s m (pos k) h) in
    round_exact f s (suc m * 2 ^ k) 1 (suc m) (k + l) (down_pos (pos k)) (held_digits f s m (pos k) h)
    (rw (← e1, add_comm l (suc (emax f))) (shl_lt (suc (emax f)) l b))
    (e1 ∙ sym (mul-one (suc m * 2 ^ (k + l))))
own_value f s (suc m) (negsuc k) h =
    let l = low f in
    let i : suc k ≤ l = exponent_le (suc k) l (held_least f s m (negsuc k) h) in
    let j = l - suc k in
    let e1 : 2 ^ l ≡ 2 ^ j * 2 ^ suc k = sym (ap (λ (x : ℕ). 2 ^ x) (back l (suc k) i)) ∙ pow-add 2 j (suc k) in
    let d : suc m < 2 ^ suc (emax f) = lt_of_lt_of_le (held_digits f s m (negsuc k) h) (pow_mono (reach f)) in
    round_exact f s (suc m * 1) (2 ^ suc k) (suc m) j (down_pos (negsuc k)) (held_digits f s m (negsuc k) h)
    (lt_of_lt_of_le (shl_lt (suc (emax f)) j d) (pow_mono {i = suc (emax f) + j} {j = l + suc (emax f)} (omega arith)))
    (ap (λ (x : ℕ). x * 2 ^ l) (mul-one (suc m)) ∙ ap (λ (x : ℕ). suc m * x) e1 ∙ sym (mul_assoc (suc m) (2 ^ j) (2 ^ suc k)))

pub round_own : (f : Format) (s : Bool) (m : ℕ) (e : ℤ) → T (fits f (fin s m e)) → round f s (m * up e) (down e) ≡ fin s m e
round_own f s m e h =
    value_unique f (round f s (m * up e) (down e)) (fin s m e) s (m * up e) (down e) (down_pos e) (round-fits f s (m * up e) (down e)) h (own_value f s m e h) (refl, refl)
