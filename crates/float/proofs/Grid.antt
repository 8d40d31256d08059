-- `root_of` in units of the smallest value: how many digits it cuts off, what it keeps, and that no number of 53 digits is nearer to the root than what it gives. Assumes nothing.
use Rattle.std.proofs.Common.{◌≡◌, ℕ, suc, ◌+◌, ◌-◌, ◌*◌, ◌/◌, ◌^◌, ◌<◌, ◌≤◌, false, ◌⊎◌, sym, refl, ap, ◌∙◌, subst, inl, inr, le_trans, le_of_eq, lt_of_lt_of_le, lt_of_le_of_lt, le_of_lt, mul-le-mul_right, mul_assoc, mul_comm, div-lt_iff_lt-mul, add-mul, eq-zero-or-pos, le_antisymm, lt_of_mul-lt-mul_right, eq-or-lt_of_le, mul-le-mul_left, mul-lt-mul_of_pos_right, mul-pos, one-mul, pow-suc, lt_of_not-le, le-div_iff_mul-le, mul_right_comm, le_of_mul-le-mul_right, mul_left_comm, add-one, arith, pow_pos, pow_mono, pow-add}
use Prim.Native.Nat.{compare, Ordering}
use native.Mathlib.Nat.{mul-mul-mul_comm}
use native.Mathlib.Decide.{dec_le}
use lib.Ieee.Exact.{HasValue, units_val}
use lib.Ieee.{Float, binary64, size, nearest, units}
use lib.Ieee.Digits.{size-lt, size-le, size_reaches}
use lib.Ieee.Fits.{nearest-le}
use Rattle.float.specs.Root.{isqrt, root_of}
use Rattle.float.proofs.Patterns.{fine}
use Rattle.float.proofs.Isqrt.{sq_suc, sq_odd, sq_even, sq_mono, sq_lt, sq_cancel, isqrt_root, Cmp, cmp, cmp_unique}
use Rattle.float.proofs.Rooted.{four_pow, four_pos, root_of_is}

-- ---- in units: no number of 53 digits lies between q * 2 ^ k and the next multiple, where q has 53 digits

pub le_or_lt : (a b : ℕ) → (a ≤ b) ⊎ (b < a)
le_or_lt a b = go (dec_le a b)
  where
    go : Dec (a ≤ b) → (a ≤ b) ⊎ (b < a)
    go (yes h) = inl h
    go (no f) = inr (lt_of_not-le f)

multiple : (y j q k : ℕ) → k ≤ j → (y * 2 ^ j ≤ q * 2 ^ k) ⊎ ((q + 1) * 2 ^ k ≤ y * 2 ^ j)
multiple y j q k h =
    let a : j ≡ j - k + k = omega arith in
    let e : y * 2 ^ j ≡ y * 2 ^ (j - k) * 2 ^ k = ap (λ (x : ℕ). y * 2 ^ x) a ∙ ap (λ (x : ℕ). y * x) (pow-add 2 (j - k) k) ∙ sym (mul_assoc y (2 ^ (j - k)) (2 ^ k)) in
    elim (le_or_lt (y * 2 ^ (j - k)) q) [
      | inl g ↦ inl (le_trans (le_of_eq e) (mul-le-mul_right (2 ^ k) g))
      | inr g ↦ inr (le_trans (mul-le-mul_right {m = q + 1} {n = y * 2 ^ (j - k)} (2 ^ k) (omega arith)) (le_of_eq (sym e)))
    ]

-- below k places, 53 digits do not reach 2 ^ 52 * 2 ^ k
short : (y j q k : ℕ) → y < 2 ^ 53 → 2 ^ 52 ≤ q → j < k → y * 2 ^ j ≤ q * 2 ^ k
short y j q k h l g =
    let a : 53 + j ≤ 52 + k = omega arith in
    le_trans (mul-le-mul_right (2 ^ j) (le_of_lt h))
    (le_trans (le_of_eq (sym (pow-add 2 53 j))) (le_trans (pow_mono a) (le_trans (le_of_eq (pow-add 2 52 k)) (mul-le-mul_right (2 ^ k) l))))

gap : (y j q k : ℕ) → y < 2 ^ 53 → (k ≡ 0) ⊎ (2 ^ 52 ≤ q) → (y * 2 ^ j ≤ q * 2 ^ k) ⊎ ((q + 1) * 2 ^ k ≤ y * 2 ^ j)
gap y j q k h (inl z) = multiple y j q k (omega arith)
gap y j q k h (inr l) = elim (le_or_lt k j) [ inl g ↦ multiple y j q k g | inr g ↦ inl (short y j q k h l g) ]

-- ---- in units: q is the whole part of the root, in units of 2 ^ k, and r the nearer of q and q + 1

abbrev Side : ℕ → ℕ → ℕ → ℕ → Type 0
Side q r n d = ((r ≡ q) × (4 * n < (2 * q + 1) * (2 * q + 1) * d)) ⊎ ((r ≡ q + 1) × ((2 * q + 1) * (2 * q + 1) * d < 4 * n))

side_at : (q n d : ℕ) (o : Ordering) → (4 * n ≡ (2 * q + 1) * (2 * q + 1) * d → ⊥) → Cmp o (4 * n) ((2 * q + 1) * (2 * q + 1) * d) → Side q (nearest q o) n d
side_at q n d Ordering.lt f c = inl (refl, c)
side_at q n d Ordering.gt f c = inr (sym (add-one q), c)
side_at q n d Ordering.eq f c = absurd (f c)

side : (q n d : ℕ) → (4 * n ≡ (2 * q + 1) * (2 * q + 1) * d → ⊥) → Side q (nearest q (compare (4 * n) ((2 * q + 1) * (2 * q + 1) * d))) n d
side q n d f = side_at q n d (compare (4 * n) ((2 * q + 1) * (2 * q + 1) * d)) f (cmp (4 * n) ((2 * q + 1) * (2 * q + 1) * d))

pub spread : (a k den : ℕ) → a * 2 ^ k * (a * 2 ^ k) * den ≡ a * a * (den * 4 ^ k)
spread a k den = ap (λ (x : ℕ). x * den) (mul-mul-mul_comm a (2 ^ k) a (2 ^ k) ∙ ap (λ (x : ℕ). a * a * x) (sym (four_pow k))) ∙ mul_assoc (a * a) (4 ^ k) den ∙ ap (λ (x : ℕ). a * a * x) (mul_comm (4 ^ k) den)

lt_by : (s a k den n : ℕ) → 0 < den → s < a * 2 ^ k → a * a * (den * 4 ^ k) ≤ 4 * n → s * s * den < 4 * n
lt_by s a k den n D h g = lt_of_lt_of_le (mul-lt-mul_of_pos_right (sq_lt h) D) (le_trans (le_of_eq (spread a k den)) g)

le_by : (s a k den n : ℕ) → s ≤ a * 2 ^ k → a * a * (den * 4 ^ k) < 4 * n → s * s * den < 4 * n
le_by s a k den n h g = lt_of_le_of_lt (le_trans (mul-le-mul_right den (sq_mono h)) (le_of_eq (spread a k den))) g

ge_by : (s a k den n : ℕ) → a * 2 ^ k ≤ s → 4 * n < a * a * (den * 4 ^ k) → 4 * n < s * s * den
ge_by s a k den n h g = lt_of_lt_of_le g (le_trans (le_of_eq (sym (spread a k den))) (mul-le-mul_right den (sq_mono h)))

next_times : (q p : ℕ) → (q + 1) * p ≡ q * p + p
next_times q p = simp (add-mul, one-mul)

odd_times : (q p : ℕ) → (2 * q + 1) * p ≡ 2 * (q * p) + p
odd_times q p = simp (add-mul, one-mul, mul_assoc)

pub four_times : (q d : ℕ) → 2 * q * (2 * q) * d ≡ 4 * (q * q * d)
four_times q d = ap (λ (x : ℕ). x * d) (sq_even q) ∙ mul_assoc 4 (q * q) d

module _ (q k den n : ℕ) (D : 0 < den) (lo : q * q * (den * 4 ^ k) ≤ n) (hi : n < (q + 1) * (q + 1) * (den * 4 ^ k)) (y : ℕ)
    (between : (y ≤ q * 2 ^ k) ⊎ ((q + 1) * 2 ^ k ≤ y)) where
  under : (r : ℕ) → Side q r n (den * 4 ^ k) → y < r * 2 ^ k → (y + r * 2 ^ k) * (y + r * 2 ^ k) * den < 4 * n
  under r (inl w) h =
      let f : y < q * 2 ^ k = subst (λ (x : ℕ). y < x * 2 ^ k) w.0 h in
      subst (λ (x : ℕ). (y + x * 2 ^ k) * (y + x * 2 ^ k) * den < 4 * n) (sym w.0)
      (lt_by (y + q * 2 ^ k) (2 * q) k den n D (omega (arith, mul_assoc 2 q (2 ^ k))) (omega (arith, four_times q (den * 4 ^ k))))
  under r (inr w) h =
      let f : y < (q + 1) * 2 ^ k = subst (λ (x : ℕ). y < x * 2 ^ k) w.0 h in
      subst (λ (x : ℕ). (y + x * 2 ^ k) * (y + x * 2 ^ k) * den < 4 * n) (sym w.0)
      (elim between [
        | inl g ↦ le_by (y + (q + 1) * 2 ^ k) (2 * q + 1) k den n (omega (arith, next_times q (2 ^ k), odd_times q (2 ^ k))) w.1
        | inr g ↦ absurd (omega arith)
      ])

  over : (r : ℕ) → Side q r n (den * 4 ^ k) → r * 2 ^ k < y → 4 * n < (y + r * 2 ^ k) * (y + r * 2 ^ k) * den
  over r (inl w) h =
      let f : q * 2 ^ k < y = subst (λ (x : ℕ). x * 2 ^ k < y) w.0 h in
      subst (λ (x : ℕ). 4 * n < (y + x * 2 ^ k) * (y + x * 2 ^ k) * den) (sym w.0)
      (elim between [
        | inl g ↦ absurd (omega arith)
        | inr g ↦ ge_by (y + q * 2 ^ k) (2 * q + 1) k den n (omega (arith, next_times q (2 ^ k), odd_times q (2 ^ k))) w.1
      ])
  over r (inr w) h =
      let f : (q + 1) * 2 ^ k < y = subst (λ (x : ℕ). x * 2 ^ k < y) w.0 h in
      subst (λ (x : ℕ). 4 * n < (y + x * 2 ^ k) * (y + x * 2 ^ k) * den) (sym w.0)
      (ge_by (y + (q + 1) * 2 ^ k) (2 * (q + 1)) k den n (omega (arith, mul_assoc 2 (q + 1) (2 ^ k))) (omega (arith, four_times (q + 1) (den * 4 ^ k))))

-- ---- `root_of`: its k and its q

pub cut : ℕ → ℕ → ℕ
cut n den = size (isqrt (n / den)) - 53

pub part : ℕ → ℕ → ℕ
unfolding cut
part n den = isqrt (n / (den * 4 ^ cut n den))

module _ (n den : ℕ) (D : 0 < den) where
  wide_pos : 0 < den * 4 ^ cut n den
  wide_pos = mul-pos D (four_pos (cut n den))

  pub part_lo : part n den * part n den * (den * 4 ^ cut n den) ≤ n
  unfolding part
  part_lo = (le-div_iff_mul-le wide_pos).0 (isqrt_root (n / (den * 4 ^ cut n den))).0

  pub part_hi : n < (part n den + 1) * (part n den + 1) * (den * 4 ^ cut n den)
  unfolding part
  part_hi = (div-lt_iff_lt-mul wide_pos).0 (isqrt_root (n / (den * 4 ^ cut n den))).1

  -- the whole root has at most 53 digits more than are cut
  whole_lt : isqrt (n / den) < 2 ^ (53 + cut n den)
  unfolding cut
  whole_lt = let a : size (isqrt (n / den)) ≤ 53 + (size (isqrt (n / den)) - 53) = omega arith in lt_of_lt_of_le (size-lt (isqrt (n / den))) (pow_mono a)

  pub part_lt : part n den < 2 ^ 53
  part_lt =
      let k = cut n den in
      let w = isqrt (n / den) in
      let a : n / den < 2 ^ 53 * 2 ^ k * (2 ^ 53 * 2 ^ k) =
      lt_of_lt_of_le (isqrt_root (n / den)).1 (sq_mono {a = w + 1} {b = 2 ^ 53 * 2 ^ k} (let z : w < 2 ^ 53 * 2 ^ k = subst (λ (x : ℕ). w < x) (pow-add 2 53 k) whole_lt in omega arith)) in
      let b : n < 2 ^ 53 * 2 ^ 53 * (den * 4 ^ k) = lt_of_lt_of_le ((div-lt_iff_lt-mul D).0 a) (le_of_eq (spread (2 ^ 53) k den)) in
      sq_cancel (lt_of_mul-lt-mul_right (den * 4 ^ k) (lt_of_le_of_lt part_lo b))

  reached : 0 < cut n den → 2 ^ (52 + cut n den) ≤ isqrt (n / den)
  unfolding cut
  reached p = size_reaches (isqrt (n / den)) (52 + (size (isqrt (n / den)) - 53)) (omega arith)

  -- and where any are cut, it has them all
  pub part_full : (cut n den ≡ 0) ⊎ (2 ^ 52 ≤ part n den)
  part_full = elim (eq-zero-or-pos (cut n den)) [
    | inl z ↦ inl z
    | inr p ↦
        let k = cut n den in
        let w = isqrt (n / den) in
        let a : 2 ^ 52 * 2 ^ k ≤ w = subst (λ (x : ℕ). x ≤ w) (pow-add 2 52 k) (reached p) in
        let b : 2 ^ 52 * 2 ^ 52 * (den * 4 ^ k) ≤ n =
        le_trans (le_of_eq (sym (spread (2 ^ 52) k den))) ((le-div_iff_mul-le D).0 (le_trans (sq_mono a) (isqrt_root (n / den)).0)) in
        let c : 2 ^ 52 < part n den + 1 = sq_cancel (lt_of_mul-lt-mul_right (den * 4 ^ k) (lt_of_le_of_lt b part_hi)) in
        inr (omega arith)
  ]

  pub cut_lt : n < 2 ^ 3172 * den → cut n den < 2000
  unfolding cut
  cut_lt h =
      let a : isqrt (n / den) < 2 ^ 1586 = sq_cancel (lt_of_le_of_lt (isqrt_root (n / den)).0 ((div-lt_iff_lt-mul D).1 h)) in
      let b : size (isqrt (n / den)) ≤ 1586 = size-le (isqrt (n / den)) 1586 a in
      omega arith

-- its q, rounded
pub up_or_down : ℕ → ℕ → ℕ
up_or_down n den = nearest (part n den) (compare (4 * n) ((2 * part n den + 1) * (2 * part n den + 1) * (den * 4 ^ cut n den)))

pub root_parts : (num den : ℕ) → root_of binary64 num den ≡ units binary64 false (up_or_down (num * 4 ^ 1074) den) (cut (num * 4 ^ 1074) den)
unfolding cut part up_or_down
root_parts num den = root_of_is binary64 num den

pub up_or_down_le : (n den : ℕ) → 0 < den → up_or_down n den ≤ 2 ^ 53
unfolding up_or_down
up_or_down_le n den D = le_trans (nearest-le (part n den) (compare (4 * n) ((2 * part n den + 1) * (2 * part n den + 1) * (den * 4 ^ cut n den)))) (part_lt n den D)

-- the rounded root, in units
unfoldable pub grid : ℕ → ℕ → ℕ
grid n den = up_or_down n den * 2 ^ cut n den

-- the root of v * 2 ^ j units, v below 2 ^ 53, is never midway between two of the numbers of 53 digits: four times its square would be both even and odd
even_odd : (v t q : ℕ) → v * 2 ^ suc t ≡ (2 * q + 1) * (2 * q + 1) → ⊥
even_odd v t q e = let f : v * 2 ^ suc t ≡ v * 2 ^ t * 2 = ap (λ (x : ℕ). v * x) (pow-suc 2 t) ∙ sym (mul_assoc v (2 ^ t) 2) in omega (arith, sq_odd q)

too_large_lem : (v t q : ℕ) → v < 2 ^ 53 → 2 ^ 52 ≤ q → v ≡ (2 * q + 1) * (2 * q + 1) * 2 ^ t → ⊥
too_large_lem v t q W Q e =
    let a : 2 ^ 52 * 2 ^ 52 ≤ (2 * q + 1) * (2 * q + 1) = sq_mono {a = 2 ^ 52} {b = 2 * q + 1} (omega arith) in
    let b : (2 * q + 1) * (2 * q + 1) * 1 ≤ (2 * q + 1) * (2 * q + 1) * 2 ^ t = mul-le-mul_left ((2 * q + 1) * (2 * q + 1)) (pow_pos t) in
    omega arith

cancel : {a b : ℕ} (c : ℕ) → 0 < c → a * c ≡ b * c → a ≡ b
cancel c C e = le_antisymm (le_of_mul-le-mul_right (le_of_eq e) C) (le_of_mul-le-mul_right (le_of_eq (sym e)) C)

cancel_power : {a b : ℕ} (k : ℕ) → a * 2 ^ k ≡ b * 2 ^ k → a ≡ b
cancel_power k e = cancel (2 ^ k) (pow_pos k) e

no_midway : (v a q k : ℕ) → v < 2 ^ 53 → 0 < a → (k ≡ 0) ⊎ (2 ^ 52 ≤ q) → v * 2 ^ a ≡ (2 * q + 1) * (2 * q + 1) * 4 ^ k → ⊥
no_midway v a q k W A s e = elim (le_or_lt a (k + k)) [ inl g ↦ few g s | inr g ↦ many g ]
  where
    twice : 4 ^ k ≡ 2 ^ (k + k)
    twice = four_pow k ∙ sym (pow-add 2 k k)

    few : a ≤ k + k → (k ≡ 0) ⊎ (2 ^ 52 ≤ q) → ⊥
    few g (inl z) = omega arith
    few g (inr Q) =
        let t = k + k - a in
        let i : k + k ≡ t + a = omega arith in
        too_large_lem v t q W Q (cancel_power a (e ∙ ap (λ (x : ℕ). (2 * q + 1) * (2 * q + 1) * x) (twice ∙ ap (λ (x : ℕ). 2 ^ x) i ∙ pow-add 2 t a) ∙ sym (mul_assoc ((2 * q + 1) * (2 * q + 1)) (2 ^ t) (2 ^ a))))

    many : k + k < a → ⊥
    many g =
        let t = a - suc (k + k) in
        let i : a ≡ suc t + (k + k) = omega arith in
        even_odd v t q (cancel_power (k + k) (mul_assoc v (2 ^ suc t) (2 ^ (k + k)) ∙ ap (λ (x : ℕ). v * x) (sym (pow-add 2 (suc t) (k + k)) ∙ ap (λ (x : ℕ). 2 ^ x) (sym i)) ∙ e ∙ ap (λ (x : ℕ). (2 * q + 1) * (2 * q + 1) * x) twice))

-- the square of a float's root, in units
abbrev pub Midless : ℕ → ℕ → Type 0
Midless n den = 4 * n ≡ (2 * part n den + 1) * (2 * part n den + 1) * (den * 4 ^ cut n den) → ⊥

pub midless : (n den v j : ℕ) → 0 < den → v < 2 ^ 53 → n ≡ v * 2 ^ j * den * 2 ^ 1074 → Midless n den
midless n den v j D W e f =
    let q = part n den in
    let k = cut n den in
    no_midway v (j + 1076) q k W (omega arith) (part_full n den D)
    (cancel den D
    (ap (λ (x : ℕ). v * x * den) (pow-add 2 j 1076) ∙ ap (λ (x : ℕ). x * den) (sym (mul_assoc v (2 ^ j) (2 ^ 1076))) ∙ mul_right_comm (v * 2 ^ j) (2 ^ 1076) den ∙ four ∙ ap (λ (x : ℕ). 4 * x) (sym e) ∙ f
    ∙ ap (λ (x : ℕ). (2 * q + 1) * (2 * q + 1) * x) (mul_comm den (4 ^ k)) ∙ sym (mul_assoc ((2 * q + 1) * (2 * q + 1)) (4 ^ k) den)))
  where
    four : v * 2 ^ j * den * 2 ^ 1076 ≡ 4 * (v * 2 ^ j * den * 2 ^ 1074)
    four = mul_left_comm (v * 2 ^ j * den) 4 (2 ^ 1074)

module _ (n den y j : ℕ) (D : 0 < den) (Y : y < 2 ^ 53) (F : Midless n den) where
  pub grid_under : y * 2 ^ j < grid n den → (y * 2 ^ j + grid n den) * (y * 2 ^ j + grid n den) * den < 4 * n
  unfolding grid up_or_down
  grid_under = under (part n den) (cut n den) den n D (part_lo n den D) (part_hi n den D) (y * 2 ^ j) (gap y j (part n den) (cut n den) Y (part_full n den D)) (up_or_down n den) (side (part n den) n (den * 4 ^ cut n den) F)

  pub grid_over : grid n den < y * 2 ^ j → 4 * n < (y * 2 ^ j + grid n den) * (y * 2 ^ j + grid n den) * den
  unfolding grid up_or_down
  grid_over = over (part n den) (cut n den) den n D (part_lo n den D) (part_hi n den D) (y * 2 ^ j) (gap y j (part n den) (cut n den) Y (part_full n den D)) (up_or_down n den) (side (part n den) n (den * 4 ^ cut n den) F)

-- ---- sizes: the root of a number up to 4 ^ e is at most 2 ^ e, rounded too

module _ (n den e : ℕ) (D : 0 < den) (E : 52 ≤ e) (h : n ≤ 2 ^ e * 2 ^ e * den) where
  root_le : isqrt (n / den) ≤ 2 ^ e
  root_le =
      let a : n / den < 2 ^ e * 2 ^ e + 1 = (div-lt_iff_lt-mul D).1 (lt_of_le_of_lt h (omega (arith, next_times (2 ^ e * 2 ^ e) den))) in
      let b : isqrt (n / den) < 2 ^ e + 1 = sq_cancel (lt_of_le_of_lt (isqrt_root (n / den)).0 (omega (arith, sq_suc (2 ^ e)))) in
      omega arith

  pub cut_le : cut n den ≤ e - 52
  unfolding cut
  cut_le = let a : size (isqrt (n / den)) ≤ suc e = size-le (isqrt (n / den)) (suc e) (omega (arith, root_le, pow-suc 2 e, pow_pos e)) in omega arith

  shift : 2 ^ e ≡ 2 ^ (e - cut n den) * 2 ^ cut n den
  shift = ap (λ (x : ℕ). 2 ^ x) (omega (arith, cut_le)) ∙ pow-add 2 (e - cut n den) (cut n den)

  wide : n ≤ 2 ^ (e - cut n den) * 2 ^ (e - cut n den) * (den * 4 ^ cut n den)
  wide = le_trans h (le_of_eq (ap (λ (x : ℕ). x * x * den) shift ∙ spread (2 ^ (e - cut n den)) (cut n den) den))

  part_le : part n den ≤ 2 ^ (e - cut n den)
  part_le =
      let t = 2 ^ (e - cut n den) in
      let a : part n den * part n den ≤ t * t = le_of_mul-le-mul_right {k = den * 4 ^ cut n den} (le_trans (part_lo n den D) wide) (wide_pos n den D) in
      let b : part n den < t + 1 = sq_cancel (omega (arith, sq_suc t)) in
      omega arith

  -- where q reaches it, n is its square, and below the mean
  met : part n den ≡ 2 ^ (e - cut n den) → up_or_down n den ≤ 2 ^ (e - cut n den)
  unfolding up_or_down
  met p =
      let q = part n den in
      let d = den * 4 ^ cut n den in
      let a : n ≤ q * q * d = subst (λ (x : ℕ). n ≤ x * x * d) (sym p) wide in
      let b : (2 * q + 1) * (2 * q + 1) * d ≡ 4 * (q * q * d) + 4 * q * d + d = ap (λ (x : ℕ). x * d) (sq_odd q) ∙ simp (add-mul, one-mul, mul_assoc) in
      let c : 4 * n < (2 * q + 1) * (2 * q + 1) * d = omega (arith, wide_pos n den D) in
      le_of_eq (ap (λ (o : Ordering). nearest q o) (cmp_unique (compare (4 * n) ((2 * q + 1) * (2 * q + 1) * d)) Ordering.lt (4 * n) ((2 * q + 1) * (2 * q + 1) * d) (cmp (4 * n) ((2 * q + 1) * (2 * q + 1) * d)) c) ∙ p)

  rounded_le : up_or_down n den ≤ 2 ^ (e - cut n den)
  unfolding up_or_down
  rounded_le = elim (eq-or-lt_of_le part_le) [ inl p ↦ met p | inr l ↦ le_trans (nearest-le (part n den) (compare (4 * n) ((2 * part n den + 1) * (2 * part n den + 1) * (den * 4 ^ cut n den)))) l ]

  pub grid_le : grid n den ≤ 2 ^ e
  unfolding grid
  grid_le = le_trans (mul-le-mul_right (2 ^ cut n den) rounded_le) (le_of_eq (sym shift))

-- what it gives is a float of that value
pub grid_value : (num den : ℕ) → 0 < den → cut (num * 4 ^ 1074) den < 2000 → HasValue (root_of binary64 num den) false (grid (num * 4 ^ 1074) den) (2 ^ 1074)
unfolding grid
grid_value num den D h =
    let n = num * 4 ^ 1074 in
    subst (λ (z : Float). HasValue z false (up_or_down n den * 2 ^ cut n den) (2 ^ 1074)) (sym (root_parts num den)) (units_val binary64 false (up_or_down n den) (cut n den) (fine (up_or_down n den) (cut n den) (up_or_down_le n den D) h))
