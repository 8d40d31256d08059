-- Sums of whole numbers are exact: of a and b up to 2 ^ 53 in size, the float of a plus the float of b is the float of a + b. Assumes nothing.
use Rattle.std.proofs.Common.{◌≡◌, ℕ, zero, suc, ◌+◌, ◌-◌, ◌*◌, ◌^◌, ◌<◌, ◌≤◌, Bool, true, false, cond, ◌&&◌, T, ltb, ℤ, pos, negsuc, ◌+ℤ◌, ◌-ℤ◌, neg_ℤ, nat_abs, sym, refl, ap, ◌∙◌, mul-le-mul_right, mul_assoc, mul_comm, add-mul, mul-lt-mul_of_pos_right, mul-pos, mul-one, arith, le→leb, lt→ltb, ltb-false, ltb-true, le-ltb, lt-ltb}
use native.Mathlib.Nat.{mul-sub}
use native.Mathlib.Decide.{dec_le}
use lib.Ieee.{Float, nan, inf, fin, Format, binary64, up, down, round, sum, add, of_int, in_float, prec}
use lib.Ieee.Exact.{HasValue}
use lib.Ieee.Fits.{down_pos}
use lib.Ieee.Back.{round_whole}
use lib.Ieee.Scale.{round_same}

-- ---- a sum over a common denominator
sub_mul : (m n k : ℕ) → (m - n) * k ≡ m * k - n * k
sub_mul m n k = mul_comm (m - n) k ∙ mul-sub k m n ∙ ap (λ (x : ℕ). x - k * n) (mul_comm k m) ∙ ap (λ (x : ℕ). m * k - x) (mul_comm k n)

module _ (f : Format) (A B c : ℕ) (C : 0 < c) where
  like : (s : Bool) → round f s (A * c + B * c) c ≡ round f s (A + B) 1
  like s = round_same f s (A * c + B * c) c (A + B) 1 C (omega arith) (mul-one (A * c + B * c) ∙ sym (add-mul A B c))

  less : (s : Bool) → round f s (B * c - A * c) c ≡ round f s (B - A) 1
  less s = round_same f s (B * c - A * c) c (B - A) 1 C (omega arith) (mul-one (B * c - A * c) ∙ sym (sub_mul B A c))

same_test : (A B c : ℕ) → 0 < c → ltb (A * c) (B * c) ≡ ltb A B
same_test A B c C = elim (dec_le (suc A) B) [
  | yes h ↦ lt-ltb (A * c) (B * c) (mul-lt-mul_of_pos_right h C) ∙ sym (lt-ltb A B h)
  | no h ↦ le-ltb (A * c) (B * c) (mul-le-mul_right c (let q : B ≤ A = omega arith in q)) ∙ sym (le-ltb A B (omega arith))
]

unlike_sum : (f : Format) (s t : Bool) (A B c : ℕ) → 0 < c
    → cond (ltb (A * c) (B * c)) (round f t (B * c - A * c) c) (round f (s && ltb (B * c) (A * c)) (A * c - B * c) c)
    ≡ cond (ltb A B) (round f t (B - A) 1) (round f (s && ltb B A) (A - B) 1)
unlike_sum f s t A B c C =
    ap (λ (x : Bool). cond x (round f t (B * c - A * c) c) (round f (s && ltb (B * c) (A * c)) (A * c - B * c) c)) (same_test A B c C)
    ∙ ap (λ (x : Bool). cond (ltb A B) (round f t (B * c - A * c) c) (round f (s && x) (A * c - B * c) c)) (same_test B A c C)
    ∙ ap (λ (x : Float). cond (ltb A B) x (round f (s && ltb B A) (A * c - B * c) c)) (less f A B c C t)
    ∙ ap (λ (x : Float). cond (ltb A B) (round f t (B - A) 1) x) (less f B A c C (s && ltb B A))

sum_scale : (f : Format) (s t : Bool) (A B c : ℕ) → 0 < c → sum f s (A * c) t (B * c) c ≡ sum f s A t B 1
unfolding sum
sum_scale f true true A B c C = like f A B c C true
sum_scale f false false A B c C = like f A B c C false
sum_scale f true false A B c C = unlike_sum f true false A B c C
sum_scale f false true A B c C = unlike_sum f false true A B c C

-- ---- the sum of two floats that are whole numbers, of size A and B
pub add_whole : (f : Format) (x y : Float) (s t : Bool) (A B : ℕ) → HasValue x s A 1 → HasValue y t B 1 → add f x y ≡ sum f s A t B 1
unfolding add
add_whole f nan y s t A B p q = absurd p
add_whole f (inf u) y s t A B p q = absurd p
add_whole f (fin u m e) nan s t A B p q = absurd q
add_whole f (fin u m e) (inf v) s t A B p q = absurd q
add_whole f (fin u m e) (fin v n d) s t A B p q =
    let c = down e * down d in
    let pa : m * up e * down d ≡ A * c = ap (λ (z : ℕ). z * down d) (sym (mul-one (m * up e)) ∙ p.1) ∙ mul_assoc A (down e) (down d) in
    let pb : n * up d * down e ≡ B * c = ap (λ (z : ℕ). z * down e) (sym (mul-one (n * up d)) ∙ q.1) ∙ mul_assoc B (down d) (down e) ∙ ap (λ (z : ℕ). B * z) (mul_comm (down d) (down e)) in
    ap (λ (z : ℕ). sum f u z v (n * up d * down e) c) pa
    ∙ ap (λ (z : ℕ). sum f u (A * c) v z c) pb
    ∙ ap (λ (z : Bool). sum f z (A * c) v (B * c) c) p.0
    ∙ ap (λ (z : Bool). sum f s (A * c) z (B * c) c) q.0
    ∙ sum_scale f s t A B c (mul-pos (down_pos e) (down_pos d))

-- whether a whole number is negative
abbrev pub minus : ℤ → Bool
minus (pos n) = false
minus (negsuc n) = true

of_sub : (f : Format) (a b : ℕ) (x : Bool) → ltb a (suc b) ≡ x → cond x (round f true (suc b - a) 1) (round f false (a - suc b) 1) ≡ of_int f (cond x (negsuc (suc b - suc a)) (pos (a - suc b)))
unfolding of_int
of_sub f a b true e = let h : suc b - a ≡ suc (suc b - suc a) = omega (arith, ltb-true a (suc b) e) in ap (λ (n : ℕ). round f true n 1) h
of_sub f a b false e = refl

of_sub' : (f : Format) (a b : ℕ) (x y : Bool) → ltb (suc a) b ≡ x → ltb b (suc a) ≡ y → cond x (round f false (b - suc a) 1) (round f (true && y) (suc a - b) 1) ≡ of_int f (cond y (negsuc (suc a - suc b)) (pos (b - suc a)))
unfolding of_int
of_sub' f a b true true p q = let z : ⊥ = omega (arith, ltb-true (suc a) b p, ltb-true b (suc a) q) in absurd z
of_sub' f a b true false p q = refl
of_sub' f a b false true p q = let h : suc a - b ≡ suc (suc a - suc b) = omega (arith, ltb-true b (suc a) q) in ap (λ (n : ℕ). round f true n 1) h
of_sub' f a b false false p q = let h : suc a - b ≡ b - suc a = omega (arith, ltb-false (suc a) b p, ltb-false b (suc a) q) in ap (λ (n : ℕ). round f false n 1) h

of_sum : (f : Format) (a b : ℤ) → sum f (minus a) (nat_abs a) (minus b) (nat_abs b) 1 ≡ of_int f (a +ℤ b)
unfolding sum of_int
of_sum f (pos a) (pos b) = refl
of_sum f (pos a) (negsuc b) = of_sub f a b (ltb a (suc b)) refl
of_sum f (negsuc a) (pos b) = of_sub' f a b (ltb (suc a) b) (ltb b (suc a)) refl refl
of_sum f (negsuc a) (negsuc b) = let h : suc a + suc b ≡ suc (suc (a + b)) = omega arith in ap (λ (n : ℕ). round f true n 1) h

-- the float of a whole number up to 2 ^ 53 in size is that number
pub of_int_lem : (f : Format) (a : ℤ) → nat_abs a ≤ 2 ^ prec f → HasValue (of_int f a) (minus a) (nat_abs a) 1
unfolding of_int
of_int_lem f (pos n) h = round_whole f false n h
of_int_lem f (negsuc n) h = round_whole f true (suc n) h

-- the float of a plus the float of b is the float of a + b
pub exact_sum : (a b : ℤ) → nat_abs a ≤ 2 ^ 53 → nat_abs b ≤ 2 ^ 53 → add binary64 (of_int binary64 a) (of_int binary64 b) ≡ of_int binary64 (a +ℤ b)
exact_sum a b h k =
    add_whole binary64 (of_int binary64 a) (of_int binary64 b) (minus a) (minus b) (nat_abs a) (nat_abs b) (of_int_lem binary64 a h) (of_int_lem binary64 b k) ∙ of_sum binary64 a b

-- ---- sizes
sub_size : (a b : ℕ) (x : Bool) → ltb a b ≡ x → nat_abs (cond x (negsuc (b - suc a)) (pos (a - b))) ≤ a + b
sub_size a b true e = omega (arith, ltb-true a b e)
sub_size a b false e = omega arith

pub sum_size : (a b : ℤ) → nat_abs (a +ℤ b) ≤ nat_abs a + nat_abs b
sum_size (pos a) (pos b) = omega arith
sum_size (pos a) (negsuc b) = sub_size a (suc b) (ltb a (suc b)) refl
sum_size (negsuc a) (pos b) = omega (arith, sub_size b (suc a) (ltb b (suc a)) refl)
sum_size (negsuc a) (negsuc b) = omega arith

pub neg_size : (a : ℤ) → nat_abs (neg_ℤ a) ≡ nat_abs a
neg_size (pos zero) = refl
neg_size (pos (suc n)) = refl
neg_size (negsuc n) = refl

pub difference_size : (a b : ℤ) → nat_abs (a -ℤ b) ≤ nat_abs a + nat_abs b
difference_size a b = omega (arith, sum_size a (neg_ℤ b), neg_size b)

pub in_float_lem : (z : ℤ) → nat_abs z ≤ 2 ^ 53 → T (in_float binary64 z)
unfolding in_float
in_float_lem (pos n) h = le→leb n (2 ^ 53) h
in_float_lem (negsuc n) h = lt→ltb n (2 ^ 53) h
