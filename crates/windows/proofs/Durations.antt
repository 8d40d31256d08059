-- Seconds: sizes of whole numbers, a window's seconds as the machine computes them, and their sum, which is exact as f64. Assumes nothing.
use Rattle.std.proofs.Common.{◌≡◌, ℕ, suc, ◌+◌, ◌*◌, ◌/◌, ◌^◌, ◌<◌, ◌≤◌, Bool, true, false, ltb, List, [], ◌∷◌, length, get_or, drop, ℤ, pos, negsuc, ◌+ℤ◌, ◌-ℤ◌, nat_abs, sym, refl, ap, ◌∙◌, subst, add-one, arith, drop_of_length-le, drop-cons, w64, SFits, to_z, of_z, ltb-false}
use lib.IntN.{+ℤ_assoc, +ℤ_idl, +ℤ_idr}
use lib.Signed.{mag, quot_z}
use lib.Ieee as Ieee
use lib.Ieee.{Float, binary64, of_int, add}
use lib.Ieee.Exact.{HasValue}
use lib.Ieee.Back.{round_whole}
use mir.ValLaws.{to_z-of_z}
use Rattle.buffers.specs.Ranges.{any}
use Rattle.buffers.proofs.Tests.{or_left, or_right}
use Rattle.buffers.proofs.Ranges.{any_get_or}
use Rattle.float.specs.Arithmetic.{zero·0}
use Rattle.float.proofs.Exact.{exact_sum, sum_size, neg_size, difference_size}
use Rattle.windows.specs.Refusal.{beyond}
use Rattle.windows.specs.Seconds.{seconds, total_seconds, float_seconds, duration_refusal}
use Rattle.windows.proofs.Refusals.{Summable, duration_accepted}

-- ---- sizes

within_limit : (t : ℤ) → beyond t ≡ false → nat_abs t ≤ 4_000_000_000_000_000_000
unfolding beyond
within_limit (pos n) e = ltb-false 4_000_000_000_000_000_000 n e
within_limit (negsuc n) e = omega (arith, ltb-false 3_999_999_999_999_999_999 n (or_left (ltb 3_999_999_999_999_999_999 n) false e))

quotient_size : (z : ℤ) → nat_abs (quot_z z (pos 1_000_000_000)) ≡ nat_abs z / 1_000_000_000
quotient_size (pos n) = refl
quotient_size (negsuc n) = neg_size (pos (suc n / 1_000_000_000))

mag_size : (z : ℤ) → mag z ≤ nat_abs z
mag_size (pos n) = omega arith
mag_size (negsuc n) = omega arith

-- ---- a window's seconds, as the machine computes them: each number goes through its 64 bits and back

abbrev back : ℤ → ℤ
back z = to_z w64 (of_z w64 z)

fits_small : (z : ℤ) → nat_abs z ≤ 8_000_000_000_000_000_000 → SFits w64 z
fits_small z h = record { sfits = omega (arith, mag_size z) }

back_small : (z : ℤ) → nat_abs z ≤ 8_000_000_000_000_000_000 → back z ≡ z
back_small z h = to_z-of_z w64 z (fits_small z h)

module _ (f l : ℤ) (hf : beyond f ≡ false) (hl : beyond l ≡ false) where
  size : nat_abs (l -ℤ f) ≤ 8_000_000_000_000_000_000
  size = omega (arith, difference_size l f, within_limit f hf, within_limit l hl)

  diff : back l -ℤ back f ≡ l -ℤ f
  diff = ap (λ (z : ℤ). z -ℤ back f) (back_small l (omega (arith, within_limit l hl))) ∙ ap (λ (z : ℤ). l -ℤ z) (back_small f (omega (arith, within_limit f hf)))

  pub diff_fits : SFits w64 (back l -ℤ back f)
  diff_fits = subst (SFits w64) (sym diff) (fits_small (l -ℤ f) size)

  quotient : quot_z (back (back l -ℤ back f)) (pos 1_000_000_000) ≡ seconds f l
  unfolding seconds
  quotient = ap (λ (z : ℤ). quot_z z (pos 1_000_000_000)) (ap back diff ∙ back_small (l -ℤ f) size)

  pub seconds_size : nat_abs (seconds f l) ≤ 8_000_000_000
  unfolding seconds
  seconds_size = omega (arith, quotient_size (l -ℤ f), size)

  pub quotient_fits : SFits w64 (quot_z (back (back l -ℤ back f)) (pos 1_000_000_000))
  quotient_fits = subst (SFits w64) (sym quotient) (fits_small (seconds f l) (omega (arith, seconds_size)))

  pub whole_seconds : back (quot_z (back (back l -ℤ back f)) (pos 1_000_000_000)) ≡ seconds f l
  whole_seconds = ap back quotient ∙ back_small (seconds f l) (omega (arith, seconds_size))

-- ---- the sum, window by window

zero_float : zero·0 ≡ of_int binary64 (pos 0)
unfolding Ieee.of_bits Ieee.of_fields Ieee.odd of_int Ieee.round Ieee.size Ieee.units Ieee.span Ieee.climb
zero_float = refl

plus : (x y : Float) (a b : ℤ) → x ≡ of_int binary64 a → y ≡ of_int binary64 b → nat_abs a ≤ 2 ^ 53 → nat_abs b ≤ 2 ^ 53 → add binary64 x y ≡ of_int binary64 (a +ℤ b)
plus x y a b p q h k = ap (λ (z : Float). add binary64 z y) p ∙ ap (λ (z : Float). add binary64 (of_int binary64 a) z) q ∙ exact_sum a b h k

module _ (F L : List ℤ) (k : ℕ) where
  total_on : k < length F → k < length L → total_seconds (drop k F) (drop k L) ≡ seconds (get_or F k (pos 0)) (get_or L k (pos 0)) +ℤ total_seconds (drop (k + 1) F) (drop (k + 1) L)
  unfolding total_seconds
  total_on h g =
      ap (λ (x : List ℤ). total_seconds x (drop k L)) (drop-cons F k (pos 0) h ∙ ap (λ (j : ℕ). get_or F k (pos 0) ∷ drop j F) (sym (add-one k)))
      ∙ ap (λ (x : List ℤ). total_seconds (get_or F k (pos 0) ∷ drop (k + 1) F) x) (drop-cons L k (pos 0) g ∙ ap (λ (j : ℕ). get_or L k (pos 0) ∷ drop j L) (sym (add-one k)))

  total_end : length F ≤ k → total_seconds (drop k F) (drop k L) ≡ pos 0
  unfolding total_seconds
  total_end h = ap (λ (x : List ℤ). total_seconds x (drop k L)) (drop_of_length-le F h)

-- x is the sum of the first k windows, as a float
pub record Summed (F L : List ℤ) (k : ℕ) (x : Float) : Type 0 where
  pub in_list : k ≤ length L
  pub whole : ℤ
  pub is : x ≡ of_int binary64 whole
  pub small : nat_abs whole ≤ k * 8_000_000_000
  pub left : whole +ℤ total_seconds (drop k F) (drop k L) ≡ total_seconds F L

pub summed_none : (F L : List ℤ) → Summed F L 0 zero·0
summed_none F L = record { in_list = omega arith; whole = pos 0; is = zero_float; small = omega arith; left = +ℤ_idl _ }

module _ (F L : List ℤ) (a : duration_refusal F L ≡ 0) (k : ℕ) (x : Float) (s : Summed F L k x) where
  known : Summable F L
  known = duration_accepted F L a

  -- what window k's seconds ask
  pub in_limits : k < length L → (k < length F) × (k < length L) × (beyond (get_or F k (pos 0)) ≡ false) × (beyond (get_or L k (pos 0)) ≡ false)
  in_limits h =
      let g : k < length F = omega (arith, known.even) in
      (g, h, any_get_or beyond F (pos 0) k known.first g, any_get_or beyond L (pos 0) k known.last h)

  pub summed_next : k < length L → (y : Float) → y ≡ of_int binary64 (seconds (get_or F k (pos 0)) (get_or L k (pos 0))) → Summed F L (k + 1) (add binary64 x y)
  summed_next h y e =
      let i = in_limits h in
      let w = seconds (get_or F k (pos 0)) (get_or L k (pos 0)) in
      let m = seconds_size (get_or F k (pos 0)) (get_or L k (pos 0)) i.2 i.3 in
      record {
        in_list = omega arith;
        whole = s.whole +ℤ w;
        is = plus x y s.whole w s.is e (omega (arith, s.small, known.few, known.even, h)) (omega (arith, m));
        small = omega (arith, sum_size s.whole w, m, s.small);
        left =
            +ℤ_assoc s.whole w (total_seconds (drop (k + 1) F) (drop (k + 1) L))
            ∙ ap (λ (z : ℤ). s.whole +ℤ z) (sym (total_on F L k i.0 h))
            ∙ s.left;
      }

  pub summed_all : length L ≤ k → x ≡ of_int binary64 (total_seconds F L)
  summed_all h = s.is ∙ ap (of_int binary64) (sym (+ℤ_idr s.whole) ∙ ap (λ (z : ℤ). s.whole +ℤ z) (sym (total_end F L k (omega (arith, known.even)))) ∙ s.left)

-- ---- the sum of the f64 numbers, each sum rounded, is the whole-number sum

-- no window is beyond, and the sum so far leaves room for the others
record Few (z : ℤ) (F L : List ℤ) : Type 0 where
  first : any beyond F ≡ false
  last : any beyond L ≡ false
  small : nat_abs z + length F * 8_000_000_000 ≤ 2 ^ 53

floats_add : (z : ℤ) (F L : List ℤ) → Few z F L → float_seconds (of_int binary64 z) F L ≡ of_int binary64 (z +ℤ total_seconds F L)
unfolding float_seconds total_seconds any
floats_add z [] L w = ap (of_int binary64) (sym (+ℤ_idr z))
floats_add z (f ∷ F) [] w = ap (of_int binary64) (sym (+ℤ_idr z))
floats_add z (f ∷ F) (l ∷ L) w =
    let m = seconds_size f l (or_left (beyond f) (any beyond F) w.first) (or_left (beyond l) (any beyond L) w.last) in
    ap (λ (y : Float). float_seconds y F L) (exact_sum z (seconds f l) (omega (arith, w.small)) (omega (arith, m)))
    ∙ floats_add (z +ℤ seconds f l) F L (record {
      first = or_right (beyond f) (any beyond F) w.first;
      last = or_right (beyond l) (any beyond L) w.last;
      small = omega (arith, w.small, m, sum_size z (seconds f l));
    })
    ∙ ap (of_int binary64) (+ℤ_assoc z (seconds f l) (total_seconds F L))

-- summed as f64 in the windows' order, from zero
pub float_sum_exact : (F L : List ℤ) → duration_refusal F L ≡ 0 → float_seconds zero·0 F L ≡ of_int binary64 (total_seconds F L)
float_sum_exact F L e =
    let k = duration_accepted F L e in
    ap (λ (y : Float). float_seconds y F L) zero_float
    ∙ floats_add (pos 0) F L (record { first = k.first; last = k.last; small = omega (arith, k.few) })
    ∙ ap (of_int binary64) (+ℤ_idl (total_seconds F L))

-- and that f64 is the whole number itself
total_size : (F L : List ℤ) → any beyond F ≡ false → any beyond L ≡ false → nat_abs (total_seconds F L) ≤ length F * 8_000_000_000
unfolding total_seconds any
total_size [] L a b = omega arith
total_size (f ∷ F) [] a b = omega arith
total_size (f ∷ F) (l ∷ L) a b =
    omega (arith, sum_size (seconds f l) (total_seconds F L), seconds_size f l (or_left (beyond f) (any beyond F) a) (or_left (beyond l) (any beyond L) b), total_size F L (or_right (beyond f) (any beyond F) a) (or_right (beyond l) (any beyond L) b))

abbrev pub negative : ℤ → Bool
negative (pos n) = false
negative (negsuc n) = true

whole_float : (z : ℤ) → nat_abs z ≤ 2 ^ 53 → HasValue (of_int binary64 z) (negative z) (nat_abs z) 1
unfolding of_int
whole_float (pos n) h = round_whole binary64 false n h
whole_float (negsuc n) h = round_whole binary64 true (suc n) h

pub total_exact : (F L : List ℤ) → duration_refusal F L ≡ 0 → HasValue (of_int binary64 (total_seconds F L)) (negative (total_seconds F L)) (nat_abs (total_seconds F L)) 1
total_exact F L e = let k = duration_accepted F L e in whole_float (total_seconds F L) (omega (arith, total_size F L k.first k.last, k.few))
