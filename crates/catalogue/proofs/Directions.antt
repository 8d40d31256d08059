-- Degrees that 16 accepts give directions: each component is within -1 to 1, so 5 never refuses them, and the squared length is within 1e-9 of 1, so 20 does not either;
-- nor do they refuse what an accepted call leaves (`catalogue_accepted`). Assumes nothing.
use mathlib.Core.Path.{◌≡◌, refl, ap, ap₂, ◌∙◌, subst}
use mathlib.Core.Bool.{Bool, true, false, not, ◌||◌, ◌&&◌, false≢true}
use mathlib.Core.List.{List}
use Prim.Native.Nat.{ℕ, ◌+◌, ◌*◌, ◌/◌, ◌%◌, ◌<◌, ◌≤◌}
use native.Mathlib.Nat.{zero-mul, mod-lt}
use native.Mathlib.Omega.{arith}
use borrow.Author.Tests.{eqb-true, not-false}
use lib.IntN.{pos}
use lib.Dec.{eqb, lit<}
use lib.ListN.{length, get_or, take}
use lib.Ieee.{Float, nan, inf, fin, up, down, neg, lt, le, eq, of_bits}
use Rattle.buffers.specs.Ranges.{any, any_below, tab}
use Rattle.buffers.specs.Lent.{filled}
use Rattle.buffers.proofs.Ranges.{any_get_or, any_tab, length_tab, get_or_tab}
use Rattle.buffers.proofs.Lent.{take_filled}
use Rattle.buffers.proofs.Refusals.{written_none}
use Rattle.buffers.proofs.Tests.{and_left, and_right}
use Rattle.float.specs.Arithmetic.{zero·0, one, full_turn}
use Rattle.float.specs.Trigonometry.{sine_of, cosine_of, to_radians}
use Rattle.float.proofs.Order.{at_most, at_least}
use Rattle.catalogue.proofs.SineCosine.{AtMost, radians, OnCircle, sine_cosine}
use Rattle.solar_roll.specs.Vectors.{vector, dot3, triple}
use Rattle.solar_roll.specs.Cell.{too_large, bad_direction, not_unit, any_not_unit, direction_refusal}
use Rattle.solar_roll.proofs.PlanFacts.{all_unit, direction_passes}
use Rattle.catalogue.specs.Catalogue.{ninety, radec_to_unit, outside, bad_ra, bad_dec, vector_of, catalogue_number, catalogue_refusal, catalogue_after, CatalogueAccepted}
use Rattle.catalogue.proofs.Facts.{CatalogueFacts, catalogue_facts}
use Rattle.catalogue.proofs.Numbers.{number_at}
use Rattle.catalogue.proofs.UnitVector.{at_most_one, unit_length}

-- ---- degrees

-- only -0 is not below 0 and has its sign bit set
zero_only : (p q : ℕ) → (false || (eqb p q && (false || eqb p 0))) ≡ true → p ≡ q
zero_only p q h = go (eqb p q) refl h
  where
    go : (e : Bool) → eqb p q ≡ e → (false || (e && (false || eqb p 0))) ≡ true → p ≡ q
    go true k h = eqb-true p q k
    go false k h = absurd (false≢true h)

ra_degrees : (a : Float) → le (fin false 0 (pos 0)) a ≡ true → le a (fin false 45 (pos 3)) ≡ true → AtMost 360 a
unfolding le lt eq
ra_degrees nan h g = absurd (false≢true g)
ra_degrees (inf true) h g = absurd (false≢true h)
ra_degrees (inf false) h g = absurd (false≢true g)
ra_degrees (fin false m e) h g = record { s = false; m = m; e = e; is = refl; most = let k : m * up e * 1 ≤ 45 * 8 * down e = at_most (m * up e * 1) (45 * 8 * down e) _ g in omega arith }
ra_degrees (fin true m e) h g = record { s = true; m = m; e = e; is = refl; most = let k : 0 * 1 * down e ≡ m * up e * 1 = zero_only (0 * 1 * down e) (m * up e * 1) h in omega (arith, zero-mul (down e)) }

dec_degrees : (a : Float) → le (fin true 45 (pos 1)) a ≡ true → le a (fin false 45 (pos 1)) ≡ true → AtMost 360 a
unfolding le lt eq
dec_degrees nan h g = absurd (false≢true g)
dec_degrees (inf true) h g = absurd (false≢true h)
dec_degrees (inf false) h g = absurd (false≢true g)
dec_degrees (fin false m e) h g = record { s = false; m = m; e = e; is = refl; most = let k : m * up e * 1 ≤ 45 * 2 * down e = at_most (m * up e * 1) (45 * 2 * down e) _ g in omega arith }
dec_degrees (fin true m e) h g = record { s = true; m = m; e = e; is = refl; most = let k : m * up e * 1 ≤ 45 * 2 * down e = at_least (45 * 2 * down e) (m * up e * 1) _ h in omega arith }

inside : (low high a : Float) → outside low high a ≡ false → (le low a ≡ true) × (le a high ≡ true)
unfolding outside
inside low high a h = let b = not-false (le low a && le a high) h in (and_left (le low a) (le a high) b, and_right (le low a) (le a high) b)

ends : (zero·0 ≡ fin false 0 (pos 0)) × (full_turn ≡ fin false 45 (pos 3)) × (neg ninety ≡ fin true 45 (pos 1)) × (ninety ≡ fin false 45 (pos 1))
unfolding of_bits neg
ends = (refl, refl, refl, refl)

good_ra : (a : Float) → bad_ra a ≡ false → AtMost 360 a
unfolding bad_ra
good_ra a h = let b = inside zero·0 full_turn a h in ra_degrees a (subst (λ (z : Float). le z a ≡ true) ends.0 b.0) (subst (λ (z : Float). le a z ≡ true) ends.1 b.1)

good_dec : (a : Float) → bad_dec a ≡ false → AtMost 360 a
unfolding bad_dec
good_dec a h = let b = inside (neg ninety) ninety a h in dec_degrees a (subst (λ (z : Float). le z a ≡ true) ends.2 b.0) (subst (λ (z : Float). le a z ≡ true) ends.3 b.1)

of_degrees : (a : Float) → AtMost 360 a → OnCircle (sine_of (to_radians a)) (cosine_of (to_radians a))
of_degrees a w = sine_cosine (to_radians a) (radians a w)

-- ---- one position

-- neither test holds of its vector
small_and_unit : (ra dec : Float) → bad_ra ra ≡ false → bad_dec dec ≡ false → (bad_direction (radec_to_unit ra dec) ≡ false) × (not_unit (radec_to_unit ra dec) ≡ false)
unfolding radec_to_unit bad_direction any too_large not_unit dot3
small_and_unit ra dec h g =
    let d = of_degrees dec (good_dec dec g) in
    let r = of_degrees ra (good_ra ra h) in
    let w = at_most_one d r in
    (simp (w.0, w.1, w.2), ap not (unit_length d r))

position_accepted : (ra dec : Float) → bad_ra ra ≡ false → bad_dec dec ≡ false → direction_refusal (radec_to_unit ra dec) ≡ 0
unfolding radec_to_unit any_not_unit any_below triple
position_accepted ra dec h g = let w = small_and_unit ra dec h g in direction_passes (radec_to_unit ra dec) w.0 w.1

-- ---- all positions of an accepted call

module _ (ras decs : List Float) (room : ℕ) (f : CatalogueFacts ras decs room) where
  position : (i : ℕ) → i < length ras → (bad_direction (vector_of ras decs i) ≡ false) × (not_unit (vector_of ras decs i) ≡ false)
  unfolding vector_of
  position i h = small_and_unit _ _ (any_get_or bad_ra ras nan i f.ras_in h) (any_get_or bad_dec decs nan i f.decs_in (omega (arith, f.same)))

  numbers : List Float
  numbers = tab (3 * length ras) (catalogue_number ras decs)

  numbers_small : bad_direction numbers ≡ false
  unfolding numbers catalogue_number bad_direction vector_of radec_to_unit
  numbers_small = any_tab (too_large one) (3 * length ras) (catalogue_number ras decs)
      (λ (k : ℕ) (h : k < 3 * length ras). any_get_or (too_large one) (vector_of ras decs (k / 3)) nan (k % 3) (position (k / 3) (omega arith)).0 (mod-lt k (lit< tt)))

  number_is : (i j : ℕ) → i < length ras → j < 3 → get_or numbers (3 * i + j) nan ≡ get_or (vector_of ras decs i) j nan
  unfolding numbers
  number_is i j h l = get_or_tab (3 * length ras) (catalogue_number ras decs) nan (3 * i + j) (omega arith) ∙ number_at ras decs i j l

  triple_is : (i : ℕ) → i < length ras → triple numbers i ≡ vector_of ras decs i
  unfolding triple vector_of radec_to_unit
  triple_is i h =
      let z : 3 * i ≡ 3 * i + 0 = omega arith in
      ap₂ (λ (p q : Float). vector p q (get_or numbers (3 * i + 2) nan)) (ap (λ (k : ℕ). get_or numbers k nan) z ∙ number_is i 0 h (lit< tt)) (number_is i 1 h (lit< tt))
      ∙ ap (λ (p : Float). vector (get_or (vector_of ras decs i) 0 nan) (get_or (vector_of ras decs i) 1 nan) p) (number_is i 2 h (lit< tt))

  numbers_unit : any_not_unit numbers ≡ false
  unfolding numbers
  numbers_unit = all_unit (length ras) numbers (length_tab (3 * length ras) _) (λ (i : ℕ) (h : i < length ras). ap not_unit (triple_is i h) ∙ (position i h).1)

  numbers_accepted : direction_refusal numbers ≡ 0
  numbers_accepted = direction_passes numbers numbers_small numbers_unit

-- what it leaves, cut to what was written
left : (ras decs out : List Float) → catalogue_refusal ras decs (length out) ≡ 0 → take (3 * length ras) (catalogue_after ras decs out) ≡ tab (3 * length ras) (catalogue_number ras decs)
unfolding catalogue_after
left ras decs out h =
    let n = 3 * length ras in
    let g = catalogue_number ras decs in
    ap (take n) (written_none _ (filled n g out) out h) ∙ take_filled g n out

positions_accepted : (ras decs out : List Float) → catalogue_refusal ras decs (length out) ≡ 0 → direction_refusal (take (3 * length ras) (catalogue_after ras decs out)) ≡ 0
unfolding numbers
positions_accepted ras decs out h = ap direction_refusal (left ras decs out h) ∙ numbers_accepted ras decs (length out) (catalogue_facts ras decs (length out) h)

pub catalogue_accepted : CatalogueAccepted
catalogue_accepted = record {
  position = position_accepted;
  positions = positions_accepted;
  numbers = λ ras decs out h. ap length (left ras decs out h) ∙ length_tab (3 * length ras) (catalogue_number ras decs);
}
