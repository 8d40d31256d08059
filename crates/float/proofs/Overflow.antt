-- When a subtraction is finite: of a finite number and one of at most 2 ^ 969 in size it does not overflow (`finite_sub`), and of a number that is
-- not finite it never is finite (`sub_not_finite`). Assumes nothing.
use Rattle.std.proofs.Common.{◌≡◌, ℕ, zero, suc, ◌+◌, ◌-◌, ◌*◌, ◌%◌, ◌^◌, ◌<◌, ◌≤◌, Bool, true, false, cond, not, ◌&&◌, T, eqb, ltb, leb, ◌⊎◌, ℤ, pos, negsuc, sym, refl, ap, ◌∙◌, subst, inl, inr, true≢false, le_trans, le_of_eq, lt_of_lt_of_le, le_of_suc-le-suc, le-add_right, lt_of_le_of_lt, le_of_lt, add-le-add, mul-le-mul_right, mul_assoc, mul_comm, add-mul, mul-le-mul, lt_of_mul-lt-mul_right, mul-le-mul_left, mul-pos, zero-add, zero-mul, mul-one, sub-le, le-add_left, arith, lit<, lit≤, pow_mono, pow-add, ltb-true, leb-false, leb-true}
use mathlib.Core.Bool.{beq}
use lib.Ieee.{Float, nan, inf, fin, binary64, up, down, round, add, sub, neg, sum, lt, le, eq, fits}
use lib.Ieee.Fits.{down_pos, and_l, and_r}
use lib.Ieee.Order.{round_mono}
use Rattle.float.specs.Arithmetic.{finite}
use Rattle.float.proofs.Bounds.{resign, round_resign, Within}

-- the largest finite value, and a quarter of the step above it: rounded, that is still the largest
abbrev largest : ℕ
largest = (2 ^ 53 - 1) * 2 ^ 971

abbrev edge : ℕ
edge = (2 ^ 53 - 1) * 2 ^ 971 + 2 ^ 969

edge_rounded : round binary64 false edge 1 ≡ fin false (2 ^ 53 - 1) (pos 971)
unfolding round
edge_rounded = refl

below_finite : (x : Float) (m : ℕ) (e : ℤ) → T (le (resign false x) (fin false m e)) → (s : Bool) → finite (resign s x) ≡ true
unfolding le lt eq resign finite
below_finite nan m e h s = absurd h
below_finite (inf t) m e h s = absurd h
below_finite (fin t n d) m e h s = refl

-- a fraction of at most the edge, rounded
pub finite_round : (s : Bool) (n d : ℕ) → 0 < d → n ≤ edge * d → finite (round binary64 s n d) ≡ true
finite_round s n d p h =
    let l : n * 1 ≤ edge * d = le_trans (le_of_eq (mul-one n)) h in
    let t : T (le (round binary64 false n d) (fin false (2 ^ 53 - 1) (pos 971))) = subst (λ (y : Float). T (le (round binary64 false n d) y)) edge_rounded (round_mono binary64 n d edge 1 p (lit< tt) l) in
    let r = round_resign false false n d in
    ap finite (round_resign s false n d)
    ∙ below_finite (round binary64 false n d) (2 ^ 53 - 1) (pos 971) (subst (λ (x : Float). T (le x (fin false (2 ^ 53 - 1) (pos 971)))) r t) s

-- a number of 53 digits below 2 ^ 1024 is at most the largest
largest_le : (m : ℕ) (e : ℤ) → m < 2 ^ 53 → m * up e < 2 ^ 1024 * down e → m * up e ≤ largest * down e
largest_le m (pos k) h g = go (leb k 971) refl
  where
    q : (i : ℕ) → k ≡ 971 + i → m * 2 ^ k ≡ m * 2 ^ i * 2 ^ 971
    q i e = ap (λ (j : ℕ). m * 2 ^ j) e ∙ ap (λ (t : ℕ). m * t) (pow-add 2 971 i ∙ mul_comm (2 ^ 971) (2 ^ i)) ∙ sym (mul_assoc m (2 ^ i) (2 ^ 971))

    go : (b : Bool) → leb k 971 ≡ b → m * 2 ^ k ≤ largest * 1
    go true e =
        let l : m ≤ 9007199254740991 = le_of_suc-le-suc h in
        le_trans (mul-le-mul l (pow_mono (leb-true k 971 e))) (le_of_eq (sym (mul-one largest)))
    go false e =
        let i : ℕ = k - 971 in
        let w : k ≡ 971 + i = omega (arith, leb-false k 971 e) in
        let l : m * 2 ^ i * 2 ^ 971 < 2 ^ 53 * 2 ^ 971 = lt_of_le_of_lt (le_of_eq (sym (q i w))) (lt_of_lt_of_le g (lit≤ tt)) in
        let c : m * 2 ^ i < 2 ^ 53 = lt_of_mul-lt-mul_right (2 ^ 971) l in
        let u : m * 2 ^ i ≤ 9007199254740991 = le_of_suc-le-suc c in
        le_trans (le_of_eq (q i w)) (le_trans (mul-le-mul_right (2 ^ 971) u) (le_of_eq (sym (mul-one largest))))
largest_le m (negsuc k) h g =
    le_trans (le_of_eq (mul-one m))
    (le_trans (le_of_lt h) (le_trans (lit≤ tt) (le_trans (le_of_eq (sym (mul-one largest))) (mul-le-mul_left largest (down_pos (negsuc k))))))

finite_size : (s : Bool) (m : ℕ) (e : ℤ) → T (fits binary64 (fin s m e)) → m * up e ≤ largest * down e
unfolding fits
finite_size s zero e h = le_trans (le_of_eq (zero-mul (up e))) (le_trans (le-add_right 0 (largest * down e)) (le_of_eq (zero-add (largest * down e))))
finite_size s (suc m) e h =
    let a : Bool = eqb (suc m % 2) 1 in
    let b : Bool = ltb (suc m) (2 ^ 53) in
    let c : Bool = leb (down e) (2 ^ 1074) in
    let d : Bool = ltb (suc m * up e) (2 ^ 1024 * down e) in
    largest_le (suc m) e (ltb_true' _ _ (and_r a b (and_l (a && b) c (and_l (a && b && c) d h)))) (ltb_true' _ _ (and_r (a && b && c) d h))
  where
    ltb_true' : (i j : ℕ) → T (ltb i j) → i < j
    ltb_true' i j t = go (ltb i j) refl t
      where
        go : (x : Bool) → ltb i j ≡ x → T x → i < j
        go true e t = ltb-true i j e
        go false e t = absurd t

-- a sum that is at most the edge
finite_sum : (s t : Bool) (a b c : ℕ) → 0 < c → a ≤ largest * c → b ≤ 2 ^ 969 * c → finite (sum binary64 s a t b c) ≡ true
unfolding sum
finite_sum s t a b c p h g = go (beq s t) (ltb a b)
  where
    both : a + b ≤ edge * c
    both = le_trans (add-le-add h g) (le_of_eq (sym (add-mul largest (2 ^ 969) c)))

    go : (x y : Bool) → finite (cond x (round binary64 s (a + b) c) (cond y (round binary64 t (b - a) c) (round binary64 (s && ltb b a) (a - b) c))) ≡ true
    go true y = finite_round s (a + b) c p both
    go false true = finite_round t (b - a) c p (le_trans (sub-le b a) (le_trans (le-add_left b a) both))
    go false false = finite_round (s && ltb b a) (a - b) c p (le_trans (sub-le a b) (le_trans (le-add_right a b) both))

-- a finite number less one of at most 2 ^ 969 in size
pub finite_sub : (a b : Float) → T (fits binary64 a) → finite a ≡ true → Within 969 b → finite (sub binary64 a b) ≡ true
unfolding finite sub neg add
finite_sub nan b f h w = absurd (true≢false (sym h))
finite_sub (inf s) b f h w = absurd (true≢false (sym h))
finite_sub (fin s m e) b f h w =
    let i = w.e in
    let A : m * up e * down i ≤ largest * (down e * down i) = le_trans (mul-le-mul_right (down i) (finite_size s m e f)) (le_of_eq (mul_assoc largest (down e) (down i))) in
    let B : w.m * up i * down e ≤ 2 ^ 969 * (down e * down i)
    = le_trans (mul-le-mul_right (down e) w.size_le) (le_of_eq (mul_assoc (2 ^ 969) (down i) (down e) ∙ ap (λ (n : ℕ). 2 ^ 969 * n) (mul_comm (down i) (down e)))) in
    rw w.is (finite_sum s (not w.s) (m * up e * down i) (w.m * up i * down e) (down e * down i) (mul-pos (down_pos e) (down_pos i)) A B)

-- a subtraction with an infinity or a NaN on either side
pub sub_not_finite : (a b : Float) → (finite a ≡ false) ⊎ (finite b ≡ false) → finite (sub binary64 a b) ≡ false
unfolding finite sub neg add
sub_not_finite nan b w = refl
sub_not_finite (inf s) nan w = refl
sub_not_finite (inf s) (inf t) w = infinities (beq s (not t)) s
  where
    infinities : (like s : Bool) → finite (cond like (inf s) nan) ≡ false
    infinities true s = refl
    infinities false s = refl
sub_not_finite (inf s) (fin t n d) w = refl
sub_not_finite (fin s m e) nan w = refl
sub_not_finite (fin s m e) (inf t) w = refl
sub_not_finite (fin s m e) (fin t n d) (inl h) = absurd (true≢false h)
sub_not_finite (fin s m e) (fin t n d) (inr h) = absurd (true≢false h)
