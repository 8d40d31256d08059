-- What is known of a size and of a plan that is not refused, which directions pass, and how large the number of one that is refused can be. Assumes
-- nothing.
use mathlib.Core.Path.{◌≡◌, refl, sym, ap, ◌∙◌}
use mathlib.Core.Logic.{◌↔◌}
use mathlib.Core.Bool.{Bool, false, cond, not, ◌||◌}
use mathlib.Core.List.{List, [], ◌∷◌}
use Prim.Native.Nat.{ℕ, ◌*◌, ◌/◌, ◌%◌, ◌≤◌, ◌<◌}
use native.Mathlib.Omega.{arith}
use lib.Dec.{eqb, ltb, lit<}
use lib.Ieee.{Float}
use lib.ListN.{length}
use Rattle.buffers.proofs.Ranges.{any_none, any_clear}
use borrow.Author.Tests.{not-false, eqb-true, ltb-false, le-ltb}
use Rattle.buffers.specs.Ranges.{any_below}
use Rattle.buffers.specs.Refusal.{first, carried}
use Rattle.buffers.proofs.Refusals.{first_none, first_skip, first_clear, carried_clear, carried_last, given_below}
use Rattle.buffers.proofs.Tests.{or_left, or_right}
use Rattle.solar_roll.specs.Vectors.{vector, count, triple}
use Rattle.solar_roll.specs.Cell.{bad_position, bad_direction, not_unit, any_not_unit, direction_refusal, numbers_refusal}
use Rattle.solar_roll.specs.declared.plan.Plan.{Plan as LentPlan}
use Rattle.solar_roll.specs.Plan.{Plan, plan_of, lent, rows_of, times_of, unlike_lengths, most_rows, most_times, most_cells, too_many, sizes_refusal, lists_refusal, plan_refusal, PlanFacts}

-- ---- not too many rows, times and cells

pub record Few (rows times : ℕ) : Type 0 where
  pub few_rows : rows ≤ most_rows
  pub few_times : times ≤ most_times
  pub few_cells : rows * times ≤ most_cells

pub few : (rows times : ℕ) → too_many rows times ≡ false → Few rows times
unfolding too_many
few rows times h =
    let a : Bool = ltb most_rows rows in
    let b : Bool = ltb most_times times in
    let c : Bool = ltb most_cells (rows * times) in
    let m : (b || c) ≡ false = or_right a (b || c) h in
    record {
      few_rows = ltb-false _ _ (or_left a (b || c) h);
      few_times = ltb-false _ _ (or_left b c m);
      few_cells = ltb-false _ _ (or_right b c m);
    }

pub not_too_many : {rows times : ℕ} → Few rows times → too_many rows times ≡ false
unfolding too_many
not_too_many f = simp (le-ltb _ _ f.few_rows, le-ltb _ _ f.few_times, le-ltb _ _ f.few_cells)

-- ---- the sizes: lengths are multiples of 3, and there are not too many

record Sizes (targets suns observers : ℕ) : Type 0 where
  pub triples : targets % 3 ≡ 0
  pub moments : suns % 3 ≡ 0
  pub alike : suns ≡ observers
  pub few_of : Few (targets / 3) (suns / 3)

sizes : (targets suns observers : ℕ) (beyond : Bool) → sizes_refusal targets suns observers beyond ≡ 0 → Sizes targets suns observers
unfolding sizes_refusal unlike_lengths
sizes targets suns observers beyond h =
    let t : Bool = not (eqb (targets % 3) 0) in
    let s : Bool = not (eqb (suns % 3) 0) in
    let o : Bool = not (eqb suns observers) in
    let c1 = first_clear _ _ _ (lit< tt) h in
    let c2 = first_clear _ _ _ (lit< tt) c1.1 in
    let like : (t || (s || o)) ≡ false = or_left (t || (s || o)) beyond c1.0 in
    let l : (s || o) ≡ false = or_right t (s || o) like in
    record {
      triples = eqb-true _ _ (not-false _ (or_left t (s || o) like));
      moments = eqb-true _ _ (not-false _ (or_left s o l));
      alike = eqb-true _ _ (not-false _ (or_right s o l));
      few_of = few _ _ c2.0;
    }

-- ---- the numbers: none is too large, and each target is a unit vector

-- directions that are not refused pass both tests
direction_clear : (targets : List Float) → direction_refusal targets ≡ 0 → (bad_direction targets ≡ false) × (any_not_unit targets ≡ false)
unfolding direction_refusal
direction_clear targets h =
    let small = first_clear _ _ _ (lit< tt) h in
    (small.0, (first_clear _ _ _ (lit< tt) small.1).0)

pub record Numbers (targets suns observers panels : List Float) : Type 0 where
  pub suns_small : bad_position suns ≡ false
  pub observers_small : bad_position observers ≡ false
  pub targets_small : bad_direction targets ≡ false
  pub targets_unit : any_not_unit targets ≡ false
  pub panels_small : bad_position panels ≡ false

pub numbers : (targets suns observers panels : List Float) → numbers_refusal targets suns observers panels ≡ 0 → Numbers targets suns observers panels
unfolding numbers_refusal
numbers targets suns observers panels h =
    let c1 = first_clear _ _ _ (lit< tt) h in
    let c2 = carried_clear _ _ c1.1 in
    let c3 = first_clear _ _ _ (lit< tt) c2.1 in
    let d = direction_clear targets c2.0 in
    record {
      suns_small = or_left (bad_position suns) (bad_position observers) c1.0;
      observers_small = or_right (bad_position suns) (bad_position observers) c1.0;
      targets_small = d.0;
      targets_unit = d.1;
      panels_small = c3.0;
    }

-- ---- directions that neither 5 nor 20 refuses

-- a flat list of n triples, each a unit vector
pub all_unit : (n : ℕ) (targets : List Float) → length targets ≡ 3 * n → ((i : ℕ) → i < n → not_unit (triple targets i) ≡ false) → any_not_unit targets ≡ false
unfolding any_not_unit
all_unit n targets l h = any_none (length targets / 3) _ (λ i k. h i (omega arith))

-- the two tests
pub direction_passes : (targets : List Float) → bad_direction targets ≡ false → any_not_unit targets ≡ false → direction_refusal targets ≡ 0
unfolding direction_refusal
direction_passes targets small unit = first_skip _ _ _ small ∙ first_skip _ _ _ unit ∙ first_none

-- of one direction: 5 by its components, then 20 by its length
pub one_direction : (a b c : Float) → direction_refusal (vector a b c) ≡ first ((bad_direction (vector a b c), 5) ∷ (not_unit (vector a b c), 20) ∷ [])
unfolding direction_refusal any_not_unit any_below triple
one_direction a b c = refl

-- of a list exactly those whose components are within -1 to 1 and of which each is a unit vector
pub direction_accepted : (targets : List Float)
    → (direction_refusal targets ≡ 0) ↔ ((bad_direction targets ≡ false) × ((i : ℕ) → i < count targets → not_unit (triple targets i) ≡ false))
unfolding any_not_unit
direction_accepted targets = (
  λ e. let d = direction_clear targets e in (d.0, any_clear _ _ d.1),
  λ w. direction_passes targets w.0 (any_none _ _ w.1),
)

-- ---- every number that a plan is refused by is below 64, where the one said in the place of 3 is

direction_below : (targets : List Float) → direction_refusal targets < 64
unfolding direction_refusal
direction_below targets = given_below 64 _ (lit< tt) (lit< tt, (lit< tt, tt))

pub numbers_below : (targets suns observers panels : List Float) → numbers_refusal targets suns observers panels < 64
unfolding numbers_refusal carried
numbers_below targets suns observers panels = given_below 64 _ (lit< tt) (lit< tt, (direction_below targets, (lit< tt, tt)))

sizes_below : (targets suns observers : ℕ) (beyond : Bool) → sizes_refusal targets suns observers beyond < 64
unfolding sizes_refusal
sizes_below targets suns observers beyond = given_below 64 _ (lit< tt) (lit< tt, (lit< tt, tt))

pub plan_below : (p : Plan) (said : ℕ) (beyond : Bool) → said < 64 → plan_refusal p said beyond < 64
unfolding plan_refusal carried
plan_below p said beyond h = given_below 64 _ (lit< tt) (sizes_below _ _ _ beyond, (h, (numbers_below _ _ _ _, (lit< tt, tt))))

-- ---- the plan

-- the struct that the calls are lent is the plan of its lists, each as it is
pub lent_lists : (p : LentPlan) → lent p ≡ plan_of p.targets.now p.suns.now p.observers.now p.tolerances.now p.configured p.panels.now
lent_lists p = refl

-- what comes before the place of 3, what is said there, and what comes after
pub plan_parts : (p : Plan) (said : ℕ) (beyond : Bool)
    → plan_refusal p said beyond
    ≡ first (carried (sizes_refusal (length p.targets) (length p.suns) (length p.observers) beyond) ∷ carried said ∷ carried (lists_refusal p) ∷ [])
unfolding plan_refusal lists_refusal first carried
plan_parts p said beyond =
    let sizes = sizes_refusal (length p.targets) (length p.suns) (length p.observers) beyond in
    ap (λ (n : ℕ). cond (not (eqb sizes 0)) sizes (cond (not (eqb said 0)) said n)) (sym (carried_last (lists_refusal p)))

pub plan_facts : (p : Plan) (said : ℕ) (beyond : Bool) → plan_refusal p said beyond ≡ 0 → PlanFacts p
unfolding plan_refusal
plan_facts p said beyond h =
    let c1 = carried_clear _ _ h in
    let c2 = carried_clear _ _ c1.1 in
    let c3 = carried_clear _ _ c2.1 in
    let c4 = first_clear _ _ _ (lit< tt) c3.1 in
    let s = sizes _ _ _ beyond c1.0 in
    let n = numbers _ _ _ _ c3.0 in
    record {
      targets_length = omega (arith, s.triples);
      suns_length = omega (arith, s.moments);
      observers_length = omega (arith, s.moments, s.alike);
      tolerances_length = eqb-true _ _ (not-false _ c4.0);
      few_rows = s.few_of.few_rows;
      few_times = s.few_of.few_times;
      few_cells = s.few_of.few_cells;
      suns_small = n.suns_small;
      observers_small = n.observers_small;
      targets_small = n.targets_small;
      targets_unit = n.targets_unit;
      panels_small = n.panels_small;
    }

pub few_of_plan : {p : Plan} → PlanFacts p → Few (rows_of p) (times_of p)
few_of_plan f = record { few_rows = f.few_rows; few_times = f.few_times; few_cells = f.few_cells }

-- no used length lies beyond its buffer
pub not_beyond : (p : Plan) (said : ℕ) (beyond : Bool) → plan_refusal p said beyond ≡ 0 → beyond ≡ false
unfolding plan_refusal sizes_refusal
not_beyond p said beyond h =
    let c1 = carried_clear _ _ h in
    or_right (unlike_lengths (length p.targets) (length p.suns) (length p.observers)) beyond (first_clear _ _ _ (lit< tt) c1.0).0

-- nothing was said in the place of 3
pub nothing_said : (p : Plan) (said : ℕ) (beyond : Bool) → plan_refusal p said beyond ≡ 0 → said ≡ 0
unfolding plan_refusal
nothing_said p said beyond h = (carried_clear _ _ (carried_clear _ _ h).1).0
