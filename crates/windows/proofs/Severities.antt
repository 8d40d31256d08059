-- Severities: which floats are none, by their bits; and that a run's severity is the largest of its samples', one of them with none above it. Assumes
-- nothing.
use Rattle.std.proofs.Common.{◌≡◌, ℕ, zero, suc, ◌+◌, ◌-◌, ◌*◌, ◌/◌, ◌%◌, ◌<◌, ◌≤◌, Bool, true, false, cond, ◌||◌, T, eqb, leb, List, get_or, sym, refl, ap, ◌∙◌, subst, ⊎_elim, true≢false, eq-or-lt_of_le, add-one, arith, ltb-false, ltb-true, le-ltb, eq-eqb, ne_eqb, le-leb}
use native.Mathlib.Decide.{dec_le}
use mathlib.Core.Bool.{or-true, or-false}
use lib.Ieee as Ieee
use lib.Ieee.{Float, nan, inf, fin, binary64, odd, of_fields, of_bits, to_bits, fits, low, hid, up, down}
use lib.Ieee.Bits.{of_bits-to_bits}
use lib.Ieee.Fits.{down_pos}
use lib.Ieee.Positive.{through}
use borrow.Author.Tests.{lt-leb}
use Rattle.float.specs.Arithmetic.{sign_bit_of, finite}
use Rattle.windows.specs.Runs.{Run}
use Rattle.windows.specs.Windows.{larger, largest_from, largest}
use Rattle.windows.specs.Refusal.{bad_severity}

-- ---- by its bits: below those of infinity, a float is finite and its sign bit is clear

pub of_nan : bad_severity nan ≡ true
unfolding bad_severity finite
of_nan = refl

of_inf : (s : Bool) → bad_severity (inf s) ≡ true
unfolding bad_severity finite
of_inf s = refl

of_fin : (s : Bool) (m : ℕ) (e : _) → bad_severity (fin s m e) ≡ s
unfolding bad_severity finite sign_bit_of
of_fin s m e = refl

odd_sign : (d : ℕ) (s : Bool) (q k l : ℕ) → bad_severity (odd d s q k l) ≡ s
unfolding odd
odd_sign d s zero k l = of_fin s _ _
odd_sign d s (suc q) k l = of_fin s _ _

either : (s : Bool) (b c : Bool) (x : Float) → bad_severity x ≡ s → bad_severity (cond b (cond c (inf s) nan) x) ≡ (s || b)
either s true true x h = of_inf s ∙ sym (or-true s)
either s true false x h = of_nan ∙ sym (or-true s)
either s false c x h = h ∙ sym (or-false s)

of_fields_lem : (s : Bool) (x t : ℕ) → bad_severity (of_fields binary64 s x t) ≡ (s || eqb x 2047)
unfolding of_fields
of_fields_lem s zero t = odd_sign 53 s t 0 (low binary64) ∙ sym (or-false s)
of_fields_lem s (suc x) t = either s (eqb (suc x) 2047) (eqb t 0) (odd 53 s (hid binary64 + t) x (low binary64)) (odd_sign 53 s (hid binary64 + t) x (low binary64))

of_bits_lem : (n : ℕ) → bad_severity (of_bits binary64 n) ≡ (leb 0x8000_0000_0000_0000 n || eqb (n % 0x8000_0000_0000_0000 / 0x10_0000_0000_0000) 2047)
unfolding of_bits
of_bits_lem n = of_fields_lem (leb 0x8000_0000_0000_0000 n) (n % 0x8000_0000_0000_0000 / 0x10_0000_0000_0000) (n % 0x10_0000_0000_0000)

by_bits : (n : ℕ) → leb 0x7ff0_0000_0000_0000 n ≡ (leb 0x8000_0000_0000_0000 n || eqb (n % 0x8000_0000_0000_0000 / 0x10_0000_0000_0000) 2047)
by_bits n = elim (dec_le 0x8000_0000_0000_0000 n) [
  | yes h ↦ rw (le-leb 0x7ff0_0000_0000_0000 n (omega arith), le-leb 0x8000_0000_0000_0000 n h)
  | no h ↦ elim (dec_le 0x7ff0_0000_0000_0000 n) [
    | yes k ↦ rw (le-leb 0x7ff0_0000_0000_0000 n k, eq-eqb (n % 0x8000_0000_0000_0000 / 0x10_0000_0000_0000) 2047 (omega arith)) (sym (or-true (leb 0x8000_0000_0000_0000 n)))
    | no k ↦ rw (lt-leb 0x7ff0_0000_0000_0000 n (omega arith), lt-leb 0x8000_0000_0000_0000 n (omega arith), ne_eqb (n % 0x8000_0000_0000_0000 / 0x10_0000_0000_0000) 2047 (omega arith))
  ]
]

pub severity_bits : (x : Float) → T (fits binary64 x) → leb 0x7ff0_0000_0000_0000 (to_bits binary64 x) ≡ bad_severity x
severity_bits x f = by_bits (to_bits binary64 x) ∙ sym (of_bits_lem (to_bits binary64 x)) ∙ ap bad_severity (of_bits-to_bits binary64 x f)

-- ---- a loop that looks for the largest: one sample more

largest_next : (xs : List Float) (s n : ℕ) (m x y : Float) (b : Bool) → x ≡ get_or xs (s + suc n) nan → Ieee.lt m x ≡ b → y ≡ cond b x m → m ≡ largest_from xs s n → y ≡ largest_from xs s (n + 1)
unfolding largest_from larger
largest_next xs s n m x y b e t q h =
    rw (add-one n)
    (q ∙ ap (λ (c : Bool). cond c x m) (sym t) ∙ ap (λ (z : Float). larger z x) h ∙ ap (larger (largest_from xs s n)) e)

-- the same by the sample's number
pub largest_on : (xs : List Float) (s i : ℕ) (m y : Float) (b : Bool) → s + 1 ≤ i → Ieee.lt m (get_or xs i nan) ≡ b → y ≡ cond b (get_or xs i nan) m → m ≡ largest_from xs s (i - (s + 1)) → y ≡ largest_from xs s (i + 1 - (s + 1))
largest_on xs s i m y b k t q h =
    let e : i ≡ s + suc (i - (s + 1)) = omega arith in
    let n : i - (s + 1) + 1 ≡ i + 1 - (s + 1) = omega arith in
    largest_next xs s (i - (s + 1)) m (get_or xs i nan) y b (ap (λ (j : ℕ). get_or xs j nan) e) t q h ∙ ap (largest_from xs s) n

-- ---- the largest: one of them, with none above it

-- a severity is a finite float with a clear sign
none : {X : Type 0} (x : Float) → bad_severity x ≡ true → bad_severity x ≡ false → X
none x e g = absurd (true≢false (sym e ∙ g))

not_above_itself : (x : Float) → bad_severity x ≡ false → Ieee.lt x x ≡ false
unfolding Ieee.lt
not_above_itself nan g = none nan of_nan g
not_above_itself (inf s) g = none (inf s) (of_inf s) g
not_above_itself (fin true m e) g = none (fin true m e) (of_fin true m e) g
not_above_itself (fin false m e) g = le-ltb (m * up e * down e) (m * up e * down e) (omega arith)

-- what is not above p is not above what is above p
still_not_above : (p x s : Float) → bad_severity p ≡ false → bad_severity x ≡ false → bad_severity s ≡ false → Ieee.lt p s ≡ false → Ieee.lt p x ≡ true → Ieee.lt x s ≡ false
unfolding Ieee.lt
still_not_above nan x s g h k a b = none nan of_nan g
still_not_above (inf u) x s g h k a b = none (inf u) (of_inf u) g
still_not_above (fin true m e) x s g h k a b = none (fin true m e) (of_fin true m e) g
still_not_above (fin false m e) nan s g h k a b = none nan of_nan h
still_not_above (fin false m e) (inf u) s g h k a b = none (inf u) (of_inf u) h
still_not_above (fin false m e) (fin true n d) s g h k a b = none (fin true n d) (of_fin true n d) h
still_not_above (fin false m e) (fin false n d) nan g h k a b = none nan of_nan k
still_not_above (fin false m e) (fin false n d) (inf u) g h k a b = none (inf u) (of_inf u) k
still_not_above (fin false m e) (fin false n d) (fin true q c) g h k a b = none (fin true q c) (of_fin true q c) k
still_not_above (fin false m e) (fin false n d) (fin false q c) g h k a b =
    let lo : q * up c * down e ≤ m * up e * down c = ltb-false (m * up e * down c) (q * up c * down e) a in
    let hi : m * up e * down d < n * up d * down e = ltb-true (m * up e * down d) (n * up d * down e) b in
    le-ltb (n * up d * down c) (q * up c * down d)
    (through (q * up c) (m * up e) (n * up d) (down c) (down e) (down d) (down_pos e) lo (omega arith))

-- x is the largest of the samples s to t
pub record Largest (xs : List Float) (s t : ℕ) (x : Float) : Type 0 where
  pub at : ℕ
  pub low : s ≤ at
  pub high : at ≤ t
  pub is : x ≡ get_or xs at nan
  pub most : (k : ℕ) → s ≤ k → k ≤ t → Ieee.lt x (get_or xs k nan) ≡ false

-- the samples s to t are severities
abbrev pub Rated : List Float → ℕ → ℕ → Type 0
Rated xs s t = (k : ℕ) → s ≤ k → k ≤ t → bad_severity (get_or xs k nan) ≡ false

from_first : (xs : List Float) (s n : ℕ) → Rated xs s (s + n) → Largest xs s (s + n) (largest_from xs s n)
unfolding largest_from larger
from_first xs s zero g = record {
  at = s;
  low = omega arith;
  high = omega arith;
  is = refl;
  most = λ k a b. let e : s ≡ k = omega arith in ap (λ (j : ℕ). Ieee.lt (get_or xs s nan) (get_or xs j nan)) (sym e) ∙ not_above_itself (get_or xs s nan) (g s (omega arith) (omega arith));
}
from_first xs s (suc n) g = go (Ieee.lt (largest_from xs s n) (get_or xs (s + suc n) nan)) refl (from_first xs s n (λ k a b. g k a (omega arith)))
  where
    go : (b : Bool) → Ieee.lt (largest_from xs s n) (get_or xs (s + suc n) nan) ≡ b → Largest xs s (s + n) (largest_from xs s n) → Largest xs s (s + suc n) (cond b (get_or xs (s + suc n) nan) (largest_from xs s n))
    go true e r = record {
      at = s + suc n;
      low = omega arith;
      high = omega arith;
      is = refl;
      most = λ k a b. ⊎_elim
          (λ p. ap (λ (j : ℕ). Ieee.lt (get_or xs (s + suc n) nan) (get_or xs j nan)) p ∙ not_above_itself (get_or xs (s + suc n) nan) (g (s + suc n) (omega arith) (omega arith)))
          (λ q. still_not_above (largest_from xs s n) (get_or xs (s + suc n) nan) (get_or xs k nan)
          (ap bad_severity r.is ∙ g r.at r.low (omega (arith, r.high))) (g (s + suc n) (omega arith) (omega arith)) (g k a b) (r.most k a (omega arith)) e)
          (eq-or-lt_of_le b);
    }
    go false e r = record {
      at = r.at;
      low = r.low;
      high = omega (arith, r.high);
      is = r.is;
      most = λ k a b. ⊎_elim (λ p. ap (λ (j : ℕ). Ieee.lt (largest_from xs s n) (get_or xs j nan)) p ∙ e) (λ q. r.most k a (omega arith)) (eq-or-lt_of_le b);
    }

-- the severity of a run, all of whose samples' severities are finite with a clear sign
pub severity_is_largest : (xs : List Float) (r : Run) → r.first ≤ r.last → Rated xs r.first r.last → Largest xs r.first r.last (largest xs r)
unfolding largest
severity_is_largest xs r h g =
    let e : r.first + (r.last - r.first) ≡ r.last = omega arith in
    subst (λ (t : ℕ). Largest xs r.first t (largest_from xs r.first (r.last - r.first))) e
    (from_first xs r.first (r.last - r.first) (λ k a b. g k a (omega arith)))
