-- What is refused of a table of rolls, and which tables are accepted: `table_accepted`, exactly those of 1 to 3,600 rolls within 0 to below 360 of which
-- each is above all those before it. Assumes nothing.
use mathlib.Core.Path.{◌≡◌, refl, sym, ap, ◌∙◌}
use mathlib.Core.Logic.{◌↔◌}
use mathlib.Core.Bool.{Bool, true, false, not, ◌&&◌, ◌||◌}
use mathlib.Core.List.{List, [], ◌∷◌}
use Prim.Native.Nat.{ℕ, zero, suc, ◌-◌, ◌≤◌, ◌<◌}
use native.Mathlib.Nat.{not-suc-le-zero}
use native.Mathlib.Omega.{arith}
use lib.Dec.{eqb, ltb, lit<}
use lib.Ieee.{Float, nan, lt, le}
use lib.ListN.{length, get_or}
use borrow.Author.Tests.{eqb-false, ltb-false, not-false, eq-eqb, ne_eqb, lt-ltb, le-ltb}
use Rattle.buffers.specs.Ranges.{any_below}
use Rattle.buffers.specs.Refusal.{Conditions}
use Rattle.buffers.proofs.Ranges.{below_suc, any_none, any_found, any_clear}
use Rattle.buffers.proofs.Refusals.{first_none, first_here, first_skip, first_clear}
use Rattle.buffers.proofs.Tests.{and_left, and_right, or_here, or_skip, or_none, or_left, or_right}
use Rattle.float.specs.Arithmetic.{zero·0, full_turn}
use Rattle.float.proofs.Order.{lt_trans}
use Rattle.solar_roll.specs.Roll.{InTurn}
use Rattle.solar_roll.specs.Plan.{most_samples, samples_refusal}
use Rattle.roll_sweep.specs.Rolls.{not_in_turn, not_above, bad_roll, table_refusal}
use Rattle.roll_sweep.proofs.ChunkFacts.{some, samples_passed}

-- roll k
abbrev at : List Float → ℕ → Float
at rolls k = get_or rolls k nan

pub record TableFacts (rolls : List Float) : Type 0 where
  pub one : 1 ≤ length rolls
  pub most : length rolls ≤ most_samples
  -- from 0 up to but not at 360
  pub within : (k : ℕ) → k < length rolls → InTurn (get_or rolls k nan)
  pub rising : (j k : ℕ) → j < k → k < length rolls → lt (get_or rolls j nan) (get_or rolls k nan) ≡ true

-- ---- one roll

module _ (rolls : List Float) where
  -- not within 0 to below 360
  pub bad_below : (k : ℕ) → le zero·0 (at rolls k) ≡ false → bad_roll rolls k ≡ true
  unfolding bad_roll not_in_turn
  bad_below k e = or_here _ (not_above rolls k) (ap (λ (b : Bool). not (b && lt (at rolls k) full_turn)) e)

  pub bad_beyond : (k : ℕ) → le zero·0 (at rolls k) ≡ true → lt (at rolls k) full_turn ≡ false → bad_roll rolls k ≡ true
  unfolding bad_roll not_in_turn
  bad_beyond k e f = or_here _ (not_above rolls k) (ap (λ (b : Bool). not (b && lt (at rolls k) full_turn)) e ∙ ap not f)

  -- within it, the roll before decides
  pub bad_by_before : (k : ℕ) → le zero·0 (at rolls k) ≡ true → lt (at rolls k) full_turn ≡ true → bad_roll rolls k ≡ not_above rolls k
  unfolding bad_roll not_in_turn
  bad_by_before k e f = or_skip _ (not_above rolls k) (ap (λ (b : Bool). not (b && lt (at rolls k) full_turn)) e ∙ ap not f)

  pub no_before : (k : ℕ) → k ≡ 0 → not_above rolls k ≡ false
  unfolding not_above
  no_before k e = ap (not_above rolls) e

  pub one_before : (k : ℕ) → (k ≡ 0 → ⊥) → not_above rolls k ≡ not (lt (at rolls (k - 1)) (at rolls k))
  unfolding not_above
  one_before zero h = absurd (h refl)
  one_before (suc k) h = let e : suc k - 1 ≡ k = omega arith in ap (λ (j : ℕ). not (lt (at rolls j) (at rolls (suc k)))) (sym e)

  -- a roll that is not refused
  turn : (k : ℕ) → bad_roll rolls k ≡ false → InTurn (at rolls k)
  unfolding bad_roll not_in_turn
  turn k e =
      let low : Bool = le zero·0 (at rolls k) in
      let high : Bool = lt (at rolls k) full_turn in
      let both : low && high ≡ true = not-false (low && high) (or_left _ (not_above rolls k) e) in
      record { low = and_left low high both; high = and_right low high both }

  above : (k : ℕ) → bad_roll rolls (suc k) ≡ false → lt (at rolls k) (at rolls (suc k)) ≡ true
  unfolding bad_roll not_above
  above k e = not-false _ (or_right (not_in_turn (at rolls (suc k))) _ e)

  -- ---- 18 and 19

  -- after 18
  abbrev last : Conditions
  last = (any_below (length rolls) (bad_roll rolls), 19) ∷ []

  pub empty_table : length rolls ≡ 0 → 18 ≡ table_refusal rolls
  unfolding table_refusal
  empty_table e = sym (first_here _ 18 last (or_here _ _ (eq-eqb (length rolls) 0 e)))

  pub long_table : (length rolls ≡ 0 → ⊥) → most_samples < length rolls → 18 ≡ table_refusal rolls
  unfolding table_refusal
  long_table e h = sym (first_here _ 18 last (or_skip _ _ (ne_eqb (length rolls) 0 e) ∙ lt-ltb most_samples (length rolls) h))

  module _ (not-empty : length rolls ≡ 0 → ⊥) (few : length rolls ≤ most_samples) where
    size_passed : (eqb (length rolls) 0 || ltb most_samples (length rolls)) ≡ false
    size_passed = or_none _ _ (ne_eqb (length rolls) 0 not-empty) (le-ltb most_samples (length rolls) few)

    pub bad_table : (k : ℕ) → k < length rolls → bad_roll rolls k ≡ true → 19 ≡ table_refusal rolls
    unfolding table_refusal
    bad_table k h e = sym (first_skip _ 18 last size_passed ∙ first_here _ 19 [] (any_found (length rolls) (bad_roll rolls) k h e))

    pub good_table : ((k : ℕ) → k < length rolls → bad_roll rolls k ≡ false) → 0 ≡ table_refusal rolls
    unfolding table_refusal
    good_table f = sym (first_skip _ 18 last size_passed ∙ first_skip _ 19 [] (any_none (length rolls) (bad_roll rolls) f) ∙ first_none)

-- ---- an accepted table

rises : (rolls : List Float) → ((k : ℕ) → k < length rolls → bad_roll rolls k ≡ false) → (j k : ℕ) → j < k → k < length rolls → lt (at rolls j) (at rolls k) ≡ true
rises rolls f j zero h l = absurd (not-suc-le-zero h)
rises rolls f j (suc k) h l =
    let next : lt (at rolls k) (at rolls (suc k)) ≡ true = above rolls k (f (suc k) l) in
    below_suc (λ (i : ℕ). lt (at rolls i) (at rolls (suc k)) ≡ true) k (λ i m. lt_trans (at rolls i) (at rolls k) (at rolls (suc k)) (rises rolls f i k m (omega arith)) next) next j h

pub table_facts : (rolls : List Float) → table_refusal rolls ≡ 0 → TableFacts rolls
unfolding table_refusal
table_facts rolls e =
    let long = ltb most_samples (length rolls) in
    let size = first_clear (eqb (length rolls) 0 || long) 18 (last rolls) (lit< tt) e in
    let f = any_clear (length rolls) (bad_roll rolls) (first_clear _ 19 [] (lit< tt) size.1).0 in
    record {
      one = some (length rolls) (eqb-false (length rolls) 0 (or_left _ long size.0));
      most = ltb-false most_samples (length rolls) (or_right (eqb (length rolls) 0) long size.0);
      within = λ k h. turn rolls k (f k h);
      rising = rises rolls f;
    }

-- and each such table is accepted
table_passed : (rolls : List Float) → TableFacts rolls → table_refusal rolls ≡ 0
unfolding not_above
table_passed rolls t = sym (good_table rolls (λ e. omega (arith, t.one)) t.most fine)
  where
    before : (k : ℕ) → k < length rolls → not_above rolls k ≡ false
    before zero h = refl
    before (suc k) h = ap not (t.rising k (suc k) (omega arith) h)

    fine : (k : ℕ) → k < length rolls → bad_roll rolls k ≡ false
    fine k h = let w = t.within k h in bad_by_before rolls k w.low w.high ∙ before k h

pub table_accepted : (rolls : List Float) → (table_refusal rolls ≡ 0) ↔ TableFacts rolls
table_accepted rolls = (table_facts rolls, table_passed rolls)

-- so an accepted table has 1 to 3,600 rolls
pub table_samples : (rolls : List Float) → table_refusal rolls ≡ 0 → samples_refusal (length rolls) ≡ 0
table_samples rolls e = let t = table_facts rolls e in samples_passed (length rolls) t.one t.most
