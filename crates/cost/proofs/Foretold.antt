-- Document 02's request Four, of the numbers that an accepted call leaves: the count of every plan's sweep lies between the fewest probes and the most
-- (`cost_bounds`; over any rolls `bounds_over`; the size of an accepted plan is accepted, `plan_size`), and two plans reach them (`costliest`, `cheapest`): those that
-- the calls leave in the lists that they are lent (`costliest_written`, `cheapest_written`, by `lent_again`). Assumes nothing.
use mathlib.Core.Path.{◌≡◌, refl, sym, ap, ap₂, ◌∙◌, subst}
use mathlib.Core.Bool.{true, false}
use mathlib.Core.List.{List, [], ◌∷◌}
use Prim.Native.Nat.{ℕ, ◌+◌, ◌*◌, ◌/◌, ◌%◌, ◌≤◌, ◌<◌}
use native.Mathlib.Nat.{mul_comm, one-mul, mul-le-mul_right, mod-lt, div-lt_iff_lt-mul}
use native.Mathlib.Omega.{arith}
use lib.Dec.{lit<}
use lib.ListN.{length}
use lib.Ieee.{Float, neg, add, sub, mul, le, lt, of_bits}
use borrow.Author.Tests.{eq-eqb, le-ltb}
use Rattle.buffers.specs.Ranges.{sum, any}
use Rattle.buffers.specs.Lent.{over}
use Rattle.buffers.specs.Refusal.{first, carried}
use Rattle.buffers.proofs.Ranges.{sum_ext, sum_same, all_iff, all_zero}
use Rattle.buffers.proofs.Refusals.{first_none, first_skip, carried_skip, written_none}
use Rattle.buffers.proofs.Rows.{some_time}
use Rattle.buffers.proofs.Lent.{take_over}
use Rattle.float.specs.Arithmetic.{zero·0, one, abs_of}
use Rattle.float.proofs.Order.{not_above_lem, below_zero}
use Rattle.solar_roll.specs.Vectors.{vector, dot3}
use Rattle.solar_roll.specs.Roll.{circular_diff_deg}
use Rattle.solar_roll.specs.Cell.{violates, in_force, too_large, LIMIT, bad_position, bad_direction, not_unit, direction_refusal, numbers_refusal}
use Rattle.solar_roll.specs.Plan.{Plan, rows_of, times_of, row_direction, row_panel, row_config, sun_at, cell_of, violates_at, unlike_lengths, too_many, sizes_refusal, samples_refusal, plan_refusal}
use Rattle.solar_roll.specs.declared.cell.CellRoll.TheVariants.{At}
use Rattle.solar_roll.proofs.PlanFacts.{Few, not_too_many, all_unit, plan_facts}
use Rattle.solar_roll.proofs.Examples as roll-examples
use Rattle.roll_sweep.specs.Sweep.{Sweep, cells, tried, cell_probes, sweep_probes}
use Rattle.roll_sweep.specs.Rolls.{even_roll, even_rolls}
use Rattle.roll_sweep.proofs.Even.{length_even, even_at}
use Rattle.roll_sweep.proofs.Tried.{tried_all, tried_at, probes_bounds}
use Rattle.journal.specs.Plan.{sweep_of, even_sweep}
use Rattle.cost.specs.Cost.{journal_length, fewest_probes, most_probes, size_refusal, cost_refusal, cost_after, plan_of_size, costliest_tolerance, cheapest_tolerance, costliest_plan, cheapest_plan, PlanLists, plan_over, writing_refusal, plan_written}
use Rattle.cost.specs.Foretold.{length_left, fewest_left, most_left, Between, Reaches, plan_in}
use Rattle.cost.proofs.Facts.{SizeFacts, size_facts}
use Rattle.cost.proofs.Repeated.{length_repeated, any_repeated, one_repeated, triple_repeated}
use Rattle.cost.proofs.Samples.{even_arc}

-- ---- what an accepted call leaves

module _ (targets times n : ℕ) (out : List ℕ) (h : cost_refusal targets times n (length out) ≡ 0) where
  left_is : cost_after targets times n out ≡ over (journal_length targets times ∷ fewest_probes targets times ∷ most_probes targets times n ∷ []) out
  unfolding cost_after
  left_is = written_none _ _ out h

  pub length_is : length_left targets times n out ≡ journal_length targets times
  unfolding over
  length_is = rw left_is refl

  pub fewest_is : fewest_left targets times n out ≡ fewest_probes targets times
  unfolding over
  fewest_is = rw left_is refl

  pub most_is : most_left targets times n out ≡ most_probes targets times n
  unfolding over
  most_is = rw left_is refl

  -- its size is accepted, whatever the list's length
  size_passed : size_refusal targets times n false ≡ 0
  unfolding cost_refusal
  size_passed = sym (ap (size_refusal targets times n) (size_facts targets times n _ h).room) ∙ h

-- the size of an accepted plan is accepted, whatever was said in the place of 3, with n from 1 to 3,600 and room for three numbers
pub plan_size : (p : Plan) (said n room : ℕ) → plan_refusal p said false ≡ 0 → samples_refusal n ≡ 0 → 3 ≤ room → cost_refusal (rows_of p) (times_of p) n room ≡ 0
unfolding cost_refusal size_refusal
plan_size p said n room h s l =
    let f = plan_facts p said false h in
    first_skip _ _ _ (not_too_many (record { few_rows = f.few_rows; few_times = f.few_times; few_cells = f.few_cells }))
    ∙ carried_skip _ _ s
    ∙ first_skip _ _ _ (le-ltb room 3 l)
    ∙ first_none

-- ---- every plan

-- of w cells with m marked ones
least : (w n q m : ℕ) → 1 ≤ n → w + n * m ≤ q + m → m ≤ w → w ≤ q
least w n q m h b l = omega (arith, mul-le-mul_right m h)

-- over any list of rolls, whatever was said of it in the place of 3
pub bounds_over : (p : Plan) (rolls : List Float) (said : ℕ) (out : List ℕ) → cost_refusal (rows_of p) (times_of p) (length rolls) (length out) ≡ 0
    → Between (rows_of p) (times_of p) (length rolls) out (sweep_probes (sweep_of p rolls said))
unfolding sweep_probes cell_probes sweep_of
bounds_over p rolls said out h =
    let s : Sweep = sweep_of p rolls said in
    let one = (size_facts _ _ _ _ (size_passed _ _ _ out h)).one in
    let b = probes_bounds (cells s) (length rolls) s.violates one in
    record {
      at_least = rw (fewest_is _ _ _ out h) (least (cells s) (length rolls) _ _ one b.0 b.2);
      at_most = rw (most_is _ _ _ out h) b.1;
    }

pub cost_bounds : (p : Plan) (n : ℕ) (out : List ℕ) → cost_refusal (rows_of p) (times_of p) n (length out) ≡ 0 → Between (rows_of p) (times_of p) n out (sweep_probes (even_sweep p n))
cost_bounds p n out =
    subst (λ (m : ℕ). cost_refusal (rows_of p) (times_of p) m (length out) ≡ 0 → Between (rows_of p) (times_of p) m out (sweep_probes (even_sweep p n)))
    (length_even n) (bounds_over p (even_rolls n) (samples_refusal n) out)

-- ---- the plan of a size

-- what is written is within the limits, and the target is a unit vector
x_small : any (too_large one) (vector one zero·0 zero·0) ≡ false
unfolding any too_large abs_of le of_bits
x_small = refl

x_unit : not_unit (vector one zero·0 zero·0) ≡ false
unfolding not_unit dot3 abs_of add sub mul le of_bits
x_unit = refl

y_small : any (too_large LIMIT) (vector zero·0 one zero·0) ≡ false
unfolding any too_large abs_of le of_bits
y_small = refl

origin_small : any (too_large LIMIT) (vector zero·0 zero·0 zero·0) ≡ false
unfolding any too_large abs_of le of_bits
origin_small = refl

module _ (targets times : ℕ) (tolerance : Float) where
  abbrev p : Plan
  p = plan_of_size targets times tolerance

  rows_of_lem : rows_of p ≡ targets
  unfolding plan_of_size
  rows_of_lem = ap (λ (l : ℕ). l / 3) (length_repeated (3 * targets) _) ∙ omega arith

  times_of_lem : times_of p ≡ times
  unfolding plan_of_size
  times_of_lem = ap (λ (l : ℕ). l / 3) (length_repeated (3 * times) _) ∙ omega arith

  -- each cell is At(+0)
  at_zero : (r j : ℕ) → r < targets → j < times → cell_of p r j ≡ At zero·0
  unfolding plan_of_size cell_of sun_at row_direction row_config row_panel
  at_zero r j h l = rw (triple_repeated targets _ _ _ r h, triple_repeated times _ _ _ j l, triple_repeated times _ _ _ j l, triple_repeated 1 _ _ _ 0 (lit< tt)) (roll-examples.cells).0

  -- so a sample violates a cell exactly where its arc from 0 is above the tolerance
  violated : (r j : ℕ) (roll : Float) → r < targets → j < times → violates_at p r j roll ≡ lt tolerance (circular_diff_deg roll zero·0)
  unfolding violates_at violates in_force plan_of_size row_config
  violated r j roll h l = rw (at_zero r j h l, one_repeated targets tolerance r h) refl

  -- ---- its sweep over n even rolls, whatever was said in the place of 3

  module _ (n said : ℕ) where
    abbrev s : Sweep
    s = sweep_of p (even_rolls n) said

    cells_of : cells s ≡ targets * times
    unfolding sweep_of
    cells_of = ap₂ (λ (a b : ℕ). a * b) rows_of_lem times_of_lem

    samples_of : s.samples ≡ n
    unfolding sweep_of
    samples_of = length_even n

    sample : (i k : ℕ) → i < targets * times → k < n → s.violates i k ≡ lt tolerance (circular_diff_deg (even_roll n k) zero·0)
    unfolding sweep_of
    sample i k h l =
        let some : 0 < times = some_time targets times i h in
        ap₂ (λ (t : ℕ) (roll : Float). violates_at p (i / t) (i % t) roll) times_of_lem (even_at n k l)
        ∙ violated (i / times) (i % times) (even_roll n k) ((div-lt_iff_lt-mul some).1 h) (mod-lt i some)

    -- the same number of samples is tried of each cell
    total : (q : ℕ) → ((i : ℕ) → i < targets * times → tried n (s.violates i) ≡ q) → sweep_probes s ≡ q * (targets * times)
    unfolding sweep_probes cell_probes
    total q h =
        ap₂ (λ (w m : ℕ). sum w (λ i. tried m (s.violates i))) cells_of samples_of
        ∙ sum_ext (targets * times) (λ i. tried n (s.violates i)) (λ i. q) h
        ∙ sum_same (targets * times) q
        ∙ mul_comm (targets * times) q

    -- every sample violates: all are tried
    all_tried : ((k : ℕ) → k < n → lt tolerance (circular_diff_deg (even_roll n k) zero·0) ≡ true) → sweep_probes s ≡ most_probes targets times n
    all_tried v = total n (λ i h. tried_all n (s.violates i) ((all_iff n (s.violates i)).1 (λ k l. sample i k h l ∙ v k l)))

    -- the first sample does not: one is tried
    one_tried : 0 < n → lt tolerance (circular_diff_deg (even_roll n 0) zero·0) ≡ false → sweep_probes s ≡ fewest_probes targets times
    one_tried some v = total 1 (λ i h. tried_at n 0 (s.violates i) some (all_zero (s.violates i)) (sample i 0 h some ∙ v)) ∙ one-mul (targets * times)

  -- ---- it is accepted

  triples_pass : Few targets times → sizes_refusal (3 * targets) (3 * times) (3 * times) false ≡ 0
  unfolding sizes_refusal unlike_lengths
  triples_pass f =
      let a : 3 * targets % 3 ≡ 0 = omega arith in
      let b : 3 * times % 3 ≡ 0 = omega arith in
      let c : 3 * targets / 3 ≡ targets = omega arith in
      let d : 3 * times / 3 ≡ times = omega arith in
      first_skip _ _ _ (simp (eq-eqb _ _ a, eq-eqb _ _ b, eq-eqb (3 * times) (3 * times) refl))
      ∙ first_skip _ _ _ (ap₂ too_many c d ∙ not_too_many f)
      ∙ first_none

  sizes_pass : Few targets times → sizes_refusal (length p.targets) (length p.suns) (length p.observers) false ≡ 0
  unfolding plan_of_size
  sizes_pass f = rw (length_repeated (3 * targets) _, length_repeated (3 * times) _, length_repeated (3 * times) _) (triples_pass f)

  numbers_pass : numbers_refusal p.targets p.suns p.observers p.panels ≡ 0
  unfolding plan_of_size numbers_refusal direction_refusal bad_position bad_direction first carried
  numbers_pass = simp (
    any_repeated (too_large one) (3 * targets) _ (lit< tt) x_small,
    all_unit targets _ (length_repeated (3 * targets) _) (λ i h. ap not_unit (triple_repeated targets _ _ _ i h) ∙ x_unit),
    any_repeated (too_large LIMIT) (3 * times) _ (lit< tt) y_small,
    any_repeated (too_large LIMIT) (3 * times) _ (lit< tt) origin_small,
    any_repeated (too_large LIMIT) 3 _ (lit< tt) y_small,
  )

  one_tolerance_a_target : length p.tolerances ≡ rows_of p
  unfolding plan_of_size
  one_tolerance_a_target = length_repeated targets _ ∙ sym rows_of_lem

  passes : Few targets times → (said : ℕ) → said ≡ 0 → plan_refusal p said false ≡ 0
  unfolding plan_refusal
  passes f said e =
      carried_skip _ _ (sizes_pass f)
      ∙ carried_skip _ _ e
      ∙ carried_skip _ _ numbers_pass
      ∙ first_skip _ _ _ (simp (eq-eqb _ _ one_tolerance_a_target))
      ∙ first_none

-- ---- the plan, read back from lists that it was written over

pub lent_again : (targets times : ℕ) (tolerance : Float) (l : PlanLists)
    → plan_in targets times (plan_over (plan_of_size targets times tolerance) l) ≡ plan_of_size targets times tolerance
unfolding plan_of_size plan_over plan_in
lent_again targets times tolerance l = rw (
  take_over (3 * targets) _ l.targets (length_repeated (3 * targets) _),
  take_over (3 * times) _ l.suns (length_repeated (3 * times) _),
  take_over (3 * times) _ l.observers (length_repeated (3 * times) _),
  take_over targets _ l.tolerances (length_repeated targets _),
  take_over 3 _ l.panel (length_repeated 3 _),
) refl

-- ---- the two plans

module _ (targets times n : ℕ) (h : size_refusal targets times n false ≡ 0) where
  facts : SizeFacts targets times n false
  facts = size_facts targets times n false h

  -- an arc is 0 or more, so the tolerance is below it
  below_arcs : lt costliest_tolerance zero·0 ≡ true
  unfolding lt neg of_bits
  below_arcs = refl

  reaches_most : Reaches targets times n (costliest_plan targets times) (most_probes targets times n)
  unfolding of_bits
  reaches_most = record {
    of_targets = rows_of_lem targets times costliest_tolerance;
    of_times = times_of_lem targets times costliest_tolerance;
    accepted = passes targets times costliest_tolerance facts.few_of (samples_refusal n) facts.samples;
    count = λ said. all_tried targets times costliest_tolerance n said (λ k l. below_zero costliest_tolerance _ below_arcs (even_arc n k facts.one facts.most l).low);
  }

  -- an arc is 180 or less, so the tolerance is not below it
  reaches_fewest : Reaches targets times n (cheapest_plan targets times) (fewest_probes targets times)
  reaches_fewest = record {
    of_targets = rows_of_lem targets times cheapest_tolerance;
    of_times = times_of_lem targets times cheapest_tolerance;
    accepted = passes targets times cheapest_tolerance facts.few_of (samples_refusal n) facts.samples;
    count = λ said. one_tried targets times cheapest_tolerance n said facts.one (not_above_lem _ _ (even_arc n 0 facts.one facts.most facts.one).high);
  }

-- ---- the numbers that they reach are the call's

module _ (targets times n : ℕ) (out : List ℕ) (h : cost_refusal targets times n (length out) ≡ 0) where
  pub costliest : Reaches targets times n (costliest_plan targets times) (most_left targets times n out)
  costliest = rw (most_is targets times n out h) (reaches_most targets times n (size_passed targets times n out h))

  pub cheapest : Reaches targets times n (cheapest_plan targets times) (fewest_left targets times n out)
  cheapest = rw (fewest_is targets times n out h) (reaches_fewest targets times n (size_passed targets times n out h))

-- ---- and as the calls leave them in lent lists

module _ (targets times n : ℕ) (l : PlanLists) (h : writing_refusal targets times n l ≡ 0) where
  size_passes : size_refusal targets times n false ≡ 0
  unfolding writing_refusal
  size_passes = sym (ap (size_refusal targets times n) (size_facts targets times n _ h).room) ∙ h

  left : (tolerance : Float) → plan_in targets times (plan_written targets times n tolerance l) ≡ plan_of_size targets times tolerance
  unfolding plan_written
  left tolerance = ap (plan_in targets times) (written_none _ _ l h) ∙ lent_again targets times tolerance l

  pub costliest_written : Reaches targets times n (plan_in targets times (plan_written targets times n costliest_tolerance l)) (most_probes targets times n)
  costliest_written = subst (λ (p : Plan). Reaches targets times n p (most_probes targets times n)) (sym (left costliest_tolerance)) (reaches_most targets times n size_passes)

  pub cheapest_written : Reaches targets times n (plan_in targets times (plan_written targets times n cheapest_tolerance l)) (fewest_probes targets times)
  cheapest_written = subst (λ (p : Plan). Reaches targets times n p (fewest_probes targets times)) (sym (left cheapest_tolerance)) (reaches_fewest targets times n size_passes)
