-- The top bit of a number of 64 bits, by which the scans of times and of severities say what they find: of two numbers joined by |; of a loop that
-- joins one number for each element of a list; of a severity's number, and of a time's. Assumes nothing.
use Rattle.std.proofs.Common.{◌≡◌, ℕ, suc, ◌+◌, ◌-◌, ◌%◌, ◌^◌, ◌<◌, ◌≤◌, Bool, true, false, cond, ◌||◌, T, ltb, leb, List, length, get_or, drop, ℤ, pos, negsuc, ◌-ℤ◌, nat_abs, sym, refl, ap, ◌∙◌, subst, true≢false, arith, w64, Fits, SFits, to_z, of_z, drop_of_length-le, le-ltb, lt-ltb, le-leb}
use native.Mathlib.Decide.{dec_le}
use mathlib.Core.Bool.{or-true, or-false}
use lib.Bits.{bit_or, or_add_and, and_le_r, or_comm, or_lt}
use lib.Signed.{lt_z, non_neg}
use lib.Ieee.{Float, nan, inf, fin, binary64, is_nan, fits, to_bits}
use lib.Ieee.Bits.{to_bits-lt}
use mir.ValLaws.{to_z-of_z}
use borrow.Author.Tests.{lt-leb}
use Rattle.buffers.specs.Ranges.{any}
use Rattle.buffers.proofs.Ranges.{gather_hit, gather_miss}
use Rattle.windows.specs.Refusal.{beyond, bad_severity}
use Rattle.windows.specs.Steps.{top_bit}
use Rattle.windows.proofs.Severities.{of_nan, severity_bits}

-- ---- joined by |

or_least : (a b : ℕ) → a ≤ bit_or a b
or_least a b = omega (arith, or_add_and a b, and_le_r a b)

pub top_or : (a b : ℕ) → top_bit (bit_or a b) ≡ (top_bit a || top_bit b)
top_or a b = elim (dec_le 0x8000_0000_0000_0000 a) [
  | yes h ↦ rw (le-leb 0x8000_0000_0000_0000 a h) (le-leb 0x8000_0000_0000_0000 (bit_or a b) (omega (arith, or_least a b)))
  | no h ↦ elim (dec_le 0x8000_0000_0000_0000 b) [
    | yes k ↦ le-leb 0x8000_0000_0000_0000 (bit_or a b) (omega (arith, or_least b a, or_comm a b)) ∙ sym (ap (λ (t : Bool). top_bit a || t) (le-leb 0x8000_0000_0000_0000 b k) ∙ or-true (top_bit a))
    | no k ↦ rw (lt-leb 0x8000_0000_0000_0000 a (omega arith), lt-leb 0x8000_0000_0000_0000 b (omega arith)) (lt-leb 0x8000_0000_0000_0000 (bit_or a b) (or_lt 63 a b (omega arith) (omega arith)))
  ]
]

-- a loop that has gathered what the elements before i say: one more; the same where the top bit of a number says whether its element has the property
module _ {A : Type 0} (p : A → Bool) (l : List A) (d : A) (i : ℕ) where
  pub gather_more : (b c : Bool) → i < length l → c ≡ p (get_or l i d) → (b || any p (drop i l)) ≡ any p l → ((b || c) || any p (drop (i + 1) l)) ≡ any p l
  gather_more b true h e w = ap (λ (t : Bool). t || any p (drop (i + 1) l)) (or-true b) ∙ gather_hit p l d i b h (sym e) w
  gather_more b false h e w = ap (λ (t : Bool). t || any p (drop (i + 1) l)) (or-false b) ∙ gather_miss p l d i b h (sym e) w

  pub join_next : (found n : ℕ) → i < length l → top_bit n ≡ p (get_or l i d) → (top_bit found || any p (drop i l)) ≡ any p l → (top_bit (bit_or found n) || any p (drop (i + 1) l)) ≡ any p l
  join_next found n h e w = ap (λ (t : Bool). t || any p (drop (i + 1) l)) (top_or found n) ∙ gather_more (top_bit found) (top_bit n) h e w

-- and its end
pub gather_all : {A : Type 0} (p : A → Bool) (l : List A) (i : ℕ) (b : Bool) → length l ≤ i → (b || any p (drop i l)) ≡ any p l → b ≡ any p l
unfolding any
gather_all p l i b h w = sym (or-false b) ∙ ap (λ (t : List _). b || any p t) (sym (drop_of_length-le l h)) ∙ w

-- ---- severities

pub nan_top : (x : Float) → is_nan x ≡ true → true ≡ bad_severity x
unfolding is_nan
nan_top nan h = sym of_nan
nan_top (inf s) h = absurd (true≢false (sym h))
nan_top (fin s m e) h = absurd (true≢false (sym h))

reached : (b : ℕ) → b < 0x1_0000_0000_0000_0000 → (top_bit b || top_bit ((b + 0x10_0000_0000_0000) % 0x1_0000_0000_0000_0000)) ≡ leb 0x7ff0_0000_0000_0000 b
reached b h = elim (dec_le 0x8000_0000_0000_0000 b) [
  | yes k ↦ rw (le-leb 0x8000_0000_0000_0000 b k, le-leb 0x7ff0_0000_0000_0000 b (omega arith))
  | no k ↦ elim (dec_le 0x7ff0_0000_0000_0000 b) [
    | yes m ↦ rw (lt-leb 0x8000_0000_0000_0000 b (omega arith), le-leb 0x7ff0_0000_0000_0000 b m, le-leb 0x8000_0000_0000_0000 ((b + 0x10_0000_0000_0000) % 0x1_0000_0000_0000_0000) (omega arith))
    | no m ↦ rw (lt-leb 0x8000_0000_0000_0000 b (omega arith), lt-leb 0x7ff0_0000_0000_0000 b (omega arith), lt-leb 0x8000_0000_0000_0000 ((b + 0x10_0000_0000_0000) % 0x1_0000_0000_0000_0000) (omega arith))
  ]
]

pub severity_top : (x : Float) (n : ℕ) → T (fits binary64 x) → n ≡ (to_bits binary64 x + 0x10_0000_0000_0000) % 2 ^ 64 → top_bit (bit_or (to_bits binary64 x) n) ≡ bad_severity x
severity_top x n f e =
    top_or (to_bits binary64 x) n
    ∙ ap (λ (k : ℕ). top_bit (to_bits binary64 x) || top_bit k) e
    ∙ reached (to_bits binary64 x) (omega (arith, to_bits-lt binary64 x f))
    ∙ severity_bits x f

-- ---- times, each through its 64 bits and back

abbrev back : ℤ → ℤ
back z = to_z w64 (of_z w64 z)

-- z is n, on the machine too
pub record Whole (z : ℤ) (n : ℕ) : Type 0 where
  pub small : n < 0x8000_0000_0000_0000
  pub is : z ≡ pos n
  pub kept : back z ≡ pos n

whole : (z : ℤ) (n : ℕ) → n < 0x8000_0000_0000_0000 → z ≡ pos n → Whole z n
whole z n h e = record { small = h; is = e; kept = ap back e ∙ to_z-of_z w64 (pos n) (record { sfits = h }) }

-- such a number is cast to 64 bits without a sign, and then a number is added that takes the first above m to 2^63
module _ (z : ℤ) (n : ℕ) (w : Whole z n) where
  pub whole_cast : T (non_neg (back z)) × Fits w64 (nat_abs (back z))
  whole_cast = subst (λ (y : ℤ). T (non_neg y) × Fits w64 (nat_abs y)) (sym w.kept) (tt, record { fits = omega (arith, w.small) })

  pub whole_sum : (c : ℕ) → c ≤ 0x8000_0000_0000_0000 → Fits w64 (nat_abs (back z) + c)
  whole_sum c h = subst (λ (y : ℤ). Fits w64 (nat_abs y + c)) (sym w.kept) (record { fits = omega (arith, w.small) })

  pub whole_top : (c m : ℕ) → m + c + 1 ≡ 0x8000_0000_0000_0000 → top_bit (nat_abs (back z) + c) ≡ ltb m n
  whole_top c m h = ap (λ (y : ℤ). top_bit (nat_abs y + c)) w.kept ∙ elim (dec_le (suc m) n) [
    | yes k ↦ rw (le-leb 0x8000_0000_0000_0000 (n + c) (omega arith), lt-ltb m n k)
    | no k ↦ rw (lt-leb 0x8000_0000_0000_0000 (n + c) (omega arith), le-ltb m n (omega arith))
  ]

-- a time before 0 is -1 - k, and one from 0 on is n
pub record Early (t : ℤ) : Type 0 where
  pub k : ℕ
  pub is : t ≡ negsuc k
  pub whole : Whole (negsuc 0 -ℤ back t) k

pub record Late (t : ℤ) : Type 0 where
  pub n : ℕ
  pub whole : Whole t n

less_one : (k : ℕ) → negsuc 0 -ℤ negsuc k ≡ pos k
less_one k = ap (λ (b : Bool). cond b (negsuc (1 - suc (suc k))) (pos (suc k - 1))) (le-ltb (suc k) 1 (omega arith)) ∙ ap pos (let e : suc k - 1 ≡ k = omega arith in e)

module _ (t : ℤ) (f : SFits w64 t) where
  sign : (b : Bool) → lt_z (back t) (pos 0) ≡ b → lt_z t (pos 0) ≡ b
  sign b h = ap (λ (z : ℤ). lt_z z (pos 0)) (sym (to_z-of_z w64 t f)) ∙ h

pub early : (t : ℤ) → SFits w64 t → lt_z (back t) (pos 0) ≡ true → Early t
early (pos n) f h = absurd (true≢false (sym (sign (pos n) f true h) ∙ le-ltb n 0 (omega arith)))
early (negsuc k) f h = record { k = k; is = refl; whole = whole _ k f.sfits (ap (λ (z : ℤ). negsuc 0 -ℤ z) (to_z-of_z w64 (negsuc k) f) ∙ less_one k) }

pub late : (t : ℤ) → SFits w64 t → lt_z (back t) (pos 0) ≡ false → Late t
late (pos n) f h = record { n = n; whole = whole (pos n) n f.sfits refl }
late (negsuc k) f h = absurd (true≢false (sign (negsuc k) f false h))

pub early_top : (t : ℤ) (e : Early t) → top_bit (nat_abs (back (negsuc 0 -ℤ back t)) + 5_223_372_036_854_775_808) ≡ beyond t
unfolding beyond
early_top t e = whole_top _ e.k e.whole 5_223_372_036_854_775_808 3_999_999_999_999_999_999 refl ∙ sym (or-false _) ∙ sym (ap beyond e.is)

pub late_top : (t : ℤ) (l : Late t) → top_bit (nat_abs (back t) + 5_223_372_036_854_775_807) ≡ beyond t
unfolding beyond
late_top t l = whole_top t l.n l.whole 5_223_372_036_854_775_807 4_000_000_000_000_000_000 refl ∙ sym (ap beyond l.whole.is)
