-- Section 2's `circular_diff_deg`: the difference of two rolls lies in 0 to 180 where their subtraction is finite (`difference_range`), and is a
-- NaN elsewhere (`difference_nan`): so it is where a roll is not finite (`difference_not_finite`). Rounding is monotone, and 0, 180 and 360 are
-- values of the format. Public besides, for the remainder by 360 alone: `Turn`, `made_positive`, `remainder`. Assumes nothing.
use mathlib.Core.Path.{◌≡◌, refl, sym, ap, ◌∙◌, subst}
use mathlib.Core.Logic.{◌⊎◌, inl, inr}
use mathlib.Core.Bool.{Bool, true, false, cond, ◌&&◌, true≢false}
use Prim.Native.Nat.{ℕ, ◌+◌, ◌-◌, ◌*◌, ◌%◌, ◌^◌, ◌<◌, ◌≤◌}
use native.Mathlib.Nat.{mod-lt, mul-pos}
use native.Mathlib.Omega.{arith}
use borrow.Author.Tests.{le-ltb, ltb-false}
use lib.IntN.{ℤ, pos}
use lib.Dec.{T, ltb, lit<}
use lib.Ieee.{Float, nan, inf, fin, binary64, up, down, round, add, sub, neg, sum, rem, lt, le, eq, of_bits}
use lib.Ieee.Fits.{down_pos}
use lib.Ieee.Order.{round_mono}
use Rattle.float.specs.Arithmetic.{abs_of, rem_euclid, finite}
use Rattle.float.proofs.Bounds.{resign, round_resign, at_most}
use Rattle.float.proofs.Overflow.{sub_not_finite}
use Rattle.solar_roll.specs.Roll.{arc, circular_diff_deg}
use Rattle.solar_roll.specs.Section2.{InHalfTurn}

-- ---- the size of a rounded value

abs_resign : (x : Float) → abs_of x ≡ resign false x
unfolding abs_of resign
abs_resign nan = refl
abs_resign (inf s) = refl
abs_resign (fin s m e) = refl

abs_round : (s : Bool) (n d : ℕ) → abs_of (round binary64 s n d) ≡ round binary64 false n d
abs_round s n d = abs_resign (round binary64 s n d) ∙ sym (round_resign false s n d)

-- ---- a fraction of at most b, rounded, where b is a value of the format

record Small (x : Float) (b : ℕ) : Type 0 where
  pub m : ℕ
  pub e : ℤ
  pub is : x ≡ fin false m e
  pub size_le : m * up e ≤ b * down e

-- a float at most k * 2 ^ j
small : (x : Float) (k j : ℕ) → T (le (resign false x) (fin false k (pos j))) → Small (resign false x) (k * 2 ^ j)
unfolding resign le lt eq
small nan k j h = absurd h
small (inf s) k j h = absurd h
small (fin s m e) k j h =
    let g : m * up e * 1 ≤ k * 2 ^ j * down e = at_most (m * up e * 1) (k * 2 ^ j * down e) _ _ _ refl refl h in
    record { m = m; e = e; is = refl; size_le = omega arith }

-- n / d at most b = k * 2 ^ j, of which the format has the value
rounded_small : (k j n d : ℕ) → round binary64 false (k * 2 ^ j) 1 ≡ fin false k (pos j) → 0 < d → n ≤ k * 2 ^ j * d → Small (round binary64 false n d) (k * 2 ^ j)
rounded_small k j n d v p h =
    let l : n * 1 ≤ k * 2 ^ j * d = omega arith in
    let t : T (le (round binary64 false n d) (fin false k (pos j))) = subst (λ (y : Float). T (le (round binary64 false n d) y)) v (round_mono binary64 n d (k * 2 ^ j) 1 p (lit< tt) l) in
    let r = round_resign false false n d in
    subst (λ (x : Float). Small x (k * 2 ^ j)) (sym r) (small (round binary64 false n d) k j (subst (λ (x : Float). T (le x (fin false k (pos j)))) r t))

-- 180 and 360
abbrev H : Float
H = fin false 45 (pos 2)

abbrev pub K : Float
K = fin false 45 (pos 3)

half_value : round binary64 false 180 1 ≡ fin false 45 (pos 2)
unfolding round
half_value = refl

full_value : round binary64 false 360 1 ≡ fin false 45 (pos 3)
unfolding round
full_value = refl

zero_value : round binary64 false 0 1 ≡ fin false 0 (pos 0)
unfolding round
zero_value = refl

-- ---- the remainder by 360, made positive

-- at most 360 in size, and not below 0
pub record Turn (x : Float) : Type 0 where
  pub s : Bool
  pub m : ℕ
  pub e : ℤ
  pub is : x ≡ fin s m e
  pub size_le : m * up e ≤ 360 * down e
  pub sign : (s ≡ false) ⊎ (m * up e ≡ 0)

turn_of_small : (x : Float) → Small x 360 → Turn x
turn_of_small x t = record { s = false; m = t.m; e = t.e; is = t.is; size_le = t.size_le; sign = inl refl }

-- r, or r + 360 where r < 0
unfoldable pub made_positive : Float → Float
made_positive r = cond (lt r (fin false 0 (pos 0))) (add binary64 r K) r

turned : (s : Bool) (m : ℕ) (e : ℤ) → m * up e ≤ 360 * down e → Turn (made_positive (fin s m e))
unfolding made_positive lt add sum
turned false m e h =
    let g : ltb (m * up e * 1) (0 * down e) ≡ false = le-ltb (m * up e * 1) (0 * down e) (omega arith) in
    rw g (record { s = false; m = m; e = e; is = refl; size_le = h; sign = inl refl })
turned true m e h = go (ltb 0 (m * up e * 1 + 0 * down e)) refl
  where
    A : ℕ
    A = m * up e * 1

    B : ℕ
    B = 360 * down e

    C : ℕ
    C = down e * 1

    added : (b : Bool) → ltb A B ≡ b → Turn (cond b (round binary64 false (B - A) C) (round binary64 (true && ltb B A) (A - B) C))
    added true p = turn_of_small _ (rounded_small 45 3 (B - A) C full_value (mul-pos (down_pos e) (lit< tt)) (omega arith))
    added false p =
        let q : ltb B A ≡ false = le-ltb B A (omega arith) in
        rw q (turn_of_small _ (rounded_small 45 3 (A - B) C full_value (mul-pos (down_pos e) (lit< tt)) (omega arith)))

    go : (b : Bool) → ltb 0 (m * up e * 1 + 0 * down e) ≡ b → Turn (cond b (sum binary64 true A false B C) (fin true m e))
    go true p = added (ltb A B) refl
    go false p =
        let z : m * up e * 1 + 0 * down e ≤ 0 = ltb-false 0 (m * up e * 1 + 0 * down e) p in
        record { s = true; m = m; e = e; is = refl; size_le = h; sign = inr (omega arith) }

-- ---- less 180, in size

-- a float whose size is a fraction of at most 180, rounded
record Half (x : Float) : Type 0 where
  pub n : ℕ
  pub d : ℕ
  pub above : 0 < d
  pub size_le : n ≤ 180 * d
  pub is : abs_of x ≡ round binary64 false n d

half_of : (s : Bool) (n d : ℕ) → 0 < d → n ≤ 180 * d → Half (round binary64 s n d)
half_of s n d p h = record { n = n; d = d; above = p; size_le = h; is = abs_round s n d }

less_half : (s : Bool) (m : ℕ) (e : ℤ) → m * up e ≤ 360 * down e → (s ≡ false) ⊎ (m * up e ≡ 0) → Half (sub binary64 (fin s m e) H)
unfolding sub neg add sum
less_half false m e h w = go (ltb A B) refl
  where
    A : ℕ
    A = m * up e * 1

    B : ℕ
    B = 180 * down e

    C : ℕ
    C = down e * 1

    go : (b : Bool) → ltb A B ≡ b → Half (cond b (round binary64 true (B - A) C) (round binary64 false (A - B) C))
    go true p = half_of true (B - A) C (mul-pos (down_pos e) (lit< tt)) (omega arith)
    go false p = half_of false (A - B) C (mul-pos (down_pos e) (lit< tt)) (omega arith)
less_half true m e h (inl q) = absurd (true≢false q)
less_half true m e h (inr z) = half_of true (m * up e * 1 + 180 * down e) (down e * 1) (mul-pos (down_pos e) (lit< tt)) (omega arith)

-- ---- 180 less that

holds : (b : Bool) → T b → b ≡ true
holds true t = refl
holds false t = absurd t

in_half_turn : (n d : ℕ) → 0 < d → n ≤ 180 * d → InHalfTurn (round binary64 false n d)
unfolding of_bits
in_half_turn n d p h =
    let l : 0 * d ≤ n * 1 = omega arith in
    let u : n * 1 ≤ 180 * d = omega arith in
    record {
      low = holds _ (subst (λ (y : Float). T (le y (round binary64 false n d))) zero_value (round_mono binary64 0 1 n d (lit< tt) p l));
      high = holds _ (subst (λ (y : Float). T (le (round binary64 false n d) y)) half_value (round_mono binary64 n d 180 1 p (lit< tt) u));
    }

half_less : (m : ℕ) (e : ℤ) → m * up e ≤ 180 * down e → InHalfTurn (sub binary64 H (fin false m e))
unfolding sub neg add sum
half_less m e h =
    let g : ltb (180 * down e) (m * up e * 1) ≡ false = le-ltb (180 * down e) (m * up e * 1) (omega arith) in
    rw g (in_half_turn (180 * down e - m * up e * 1) (1 * down e) (mul-pos (lit< tt) (down_pos e)) (omega arith))

-- ---- together

arc_of_turn : (x : Float) → Turn x → InHalfTurn (sub binary64 H (abs_of (sub binary64 x H)))
arc_of_turn x t =
    let h = less_half t.s t.m t.e t.size_le t.sign in
    let r = rounded_small 45 2 h.n h.d half_value h.above h.size_le in
    let a : abs_of (sub binary64 x H) ≡ fin false r.m r.e = ap (λ (y : Float). abs_of (sub binary64 y H)) t.is ∙ h.is ∙ r.is in
    subst (λ (y : Float). InHalfTurn (sub binary64 H y)) (sym a) (half_less r.m r.e r.size_le)

pub remainder : (s : Bool) (m : ℕ) (e : ℤ) → Turn (made_positive (rem binary64 (fin s m e) K))
unfolding rem resign
remainder s m e =
    let n = m * up e * 1 % (360 * down e) in
    let d = down e * 1 in
    let p : 0 < 360 * down e = mul-pos (lit< tt) (down_pos e) in
    let q : n < 360 * down e = mod-lt (m * up e * 1) p in
    let l : n ≤ 360 * d = omega arith in
    let r = rounded_small 45 3 n d full_value (mul-pos (down_pos e) (lit< tt)) l in
    let v : round binary64 s n d ≡ fin s r.m r.e = round_resign s false n d ∙ ap (resign s) r.is in
    subst (λ (y : Float). Turn (made_positive y)) (sym v) (turned s r.m r.e r.size_le)

arc_range : (x : Float) → finite x ≡ true → InHalfTurn (arc x)
unfolding finite arc rem_euclid made_positive abs_of of_bits
arc_range nan h = absurd (true≢false (sym h))
arc_range (inf s) h = absurd (true≢false (sym h))
arc_range (fin s m e) h = arc_of_turn _ (remainder s m e)

arc_nan : (x : Float) → finite x ≡ false → arc x ≡ nan
unfolding finite arc rem_euclid rem lt sub neg add abs_of of_bits
arc_nan nan h = refl
arc_nan (inf s) h = refl
arc_nan (fin s m e) h = absurd (true≢false h)

-- in 0 to 180, where the subtraction does not overflow
pub difference_range : (a b : Float) → finite (sub binary64 a b) ≡ true → InHalfTurn (circular_diff_deg a b)
unfolding circular_diff_deg arc
difference_range a b h = arc_range (sub binary64 a b) h

-- else NaN
pub difference_nan : (a b : Float) → finite (sub binary64 a b) ≡ false → circular_diff_deg a b ≡ nan
unfolding circular_diff_deg arc
difference_nan a b h = arc_nan (sub binary64 a b) h

-- "a difference of a non-finite number is NaN"
pub difference_not_finite : (a b : Float) → (finite a ≡ false) ⊎ (finite b ≡ false) → circular_diff_deg a b ≡ nan
difference_not_finite a b h = difference_nan a b (sub_not_finite a b h)
