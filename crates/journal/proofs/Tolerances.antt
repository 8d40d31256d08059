-- Document 02, Two: a plan of one tolerance a target is its targets' plans of one tolerance, row by row; where all tolerances are equal it is document 01's
-- plan; and what the header holds without targets. Assumes nothing.
use mathlib.Core.Path.{◌≡◌, refl, sym, ap, ap₂, ◌∙◌}
use mathlib.Core.Bool.{false, not}
use mathlib.Core.List.{List}
use Prim.Native.Nat.{ℕ, ◌+◌, ◌*◌, ◌<◌}
use native.Mathlib.Nat.{div-eq_of_lt, mod-eq_of_lt}
use native.Mathlib.Omega.{arith}
use lib.Dec.{eqb}
use lib.ListN.{length, get_or, replicate, get_or-replicate, length-replicate, get_or-eq_default}
use lib.Ieee.{Float, nan, binary64, to_bits, of_bits}
use borrow.Author.Tests.{eq-eqb}
use Rattle.buffers.specs.Ranges.{sum}
use Rattle.buffers.specs.Refusal.{first}
use Rattle.buffers.proofs.Ranges.{sum_ext, sum_rows, all_ext}
use Rattle.buffers.proofs.Rows.{cell_row, cell_time}
use Rattle.float.specs.Arithmetic.{zero·0}
use Rattle.solar_roll.specs.Vectors.{Vector, x, y, z}
use Rattle.solar_roll.specs.Plan.{Plan, PlanFacts, target_alone, count, triple, rows_of, times_of, row_direction, row_panel, row_config, sun_at, cell_of, violates_at, head_tolerance, head_panel, plan_refusal}
use Rattle.roll_sweep.specs.Sweep.{marked, cell_probes, sweep_probes}
use Rattle.roll_sweep.proofs.Tried.{tried_ext}
use Rattle.journal.specs.Header.{header_text, has_roll, roll_bits, settings_header, header_of}
use Rattle.journal.specs.Plan.{sweep_of}
use Rattle.journal.specs.Tolerances.{TargetByTarget, EqualTolerances}

module _ (p : Plan) (r : ℕ) where
  abbrev own : Plan
  own = target_alone p r

  alone : (j : ℕ) (roll : Float) → violates_at own 0 j roll ≡ violates_at p r j roll
  unfolding triple row_direction row_panel row_config sun_at cell_of violates_at
  alone j roll = refl

  one_row : rows_of own ≡ 1
  unfolding triple row_direction
  one_row = refl

  module _ (rolls : List Float) (said : ℕ) where
    -- cell j of the row is cell j of that plan
    sample : (j k : ℕ) → j < times_of p → (sweep_of p rolls said).violates (r * times_of p + j) k ≡ (sweep_of own rolls said).violates j k
    unfolding sweep_of
    sample j k h =
        ap₂ (λ (i t : ℕ). violates_at p i t (get_or rolls k nan)) (cell_row (times_of p) r j h) (cell_time (times_of p) r j h)
        ∙ sym (alone j (get_or rolls k nan))
        ∙ ap₂ (λ (i t : ℕ). violates_at own i t (get_or rolls k nan)) (sym (div-eq_of_lt h)) (sym (mod-eq_of_lt h))

    mark : (j : ℕ) → j < times_of p → marked (sweep_of p rolls said) (r * times_of p + j) ≡ marked (sweep_of own rolls said) j
    unfolding marked sweep_of
    mark j h = all_ext (length rolls) _ _ (λ k l. sample j k h)

    probe : (j : ℕ) → j < times_of p → cell_probes (sweep_of p rolls said) (r * times_of p + j) ≡ cell_probes (sweep_of own rolls said) j
    unfolding cell_probes sweep_of
    probe j h = tried_ext (length rolls) _ _ (λ k l. sample j k h)

    share : sum (times_of p) (λ j. cell_probes (sweep_of p rolls said) (r * times_of p + j)) ≡ sweep_probes (sweep_of own rolls said)
    unfolding sweep_probes sweep_of
    share =
        let one : rows_of own * times_of p ≡ times_of p = ap (λ (n : ℕ). n * times_of p) one_row ∙ omega arith in
        sum_ext (times_of p) _ _ probe ∙ ap (λ (n : ℕ). sum n (cell_probes (sweep_of own rolls said))) (sym one)

pub target_by_target : (p : Plan) (r : ℕ) → TargetByTarget p r
unfolding triple row_direction row_panel row_config sun_at cell_of
target_by_target p r = record { settings = refl; cells = λ j. refl; violated = alone p r; marks = mark p r; probes = share p r }

-- so a sweep's count is the sum of its targets' counts
pub probes_by_target : (p : Plan) (rolls : List Float) (said : ℕ) → sweep_probes (sweep_of p rolls said) ≡ sum (rows_of p) (λ r. sweep_probes (sweep_of (target_alone p r) rolls said))
unfolding sweep_probes sweep_of
probes_by_target p rolls said =
    sum_rows (rows_of p) (times_of p) (cell_probes (sweep_of p rolls said)) ∙ sum_ext (rows_of p) _ _ (λ r h. share p r rolls said)

module _ (p : Plan) (t : Float) (all : p.tolerances ≡ replicate (count p.targets) t) where
  -- entry r of the list, whatever stands past its end
  entry : (r : ℕ) (d : Float) → r < rows_of p → get_or p.tolerances r d ≡ t
  entry r d h = ap (λ (ts : List Float). get_or ts r d) all ∙ get_or-replicate {A = Float} (count p.targets) r t d h

  one_a_target : not (eqb (length p.tolerances) (count p.targets)) ≡ false
  one_a_target = ap not (eq-eqb _ _ (ap length all ∙ length-replicate {A = Float} (count p.targets) t))

  pub equal_tolerances : EqualTolerances p t
  unfolding row_config head_tolerance header_of plan_refusal first
  equal_tolerances =
      record {
        settings = λ r h. simp (entry r nan h);
        header = λ h n. simp (entry 0 zero·0 h);
        refusals = λ said beyond. simp one_a_target;
      }

zero_bits : to_bits binary64 zero·0 ≡ 0
unfolding to_bits of_bits
zero_bits = refl

-- an accepted plan without targets has no tolerance, and zeros in the header's field of it
pub no_targets : (p : Plan) → PlanFacts p → rows_of p ≡ 0 → (n : ℕ)
    → header_of p n
    ≡ header_text 0 (times_of p) n 0 (has_roll p.configured) (roll_bits p.configured)
    (to_bits binary64 (x (head_panel p))) (to_bits binary64 (y (head_panel p))) (to_bits binary64 (z (head_panel p)))
unfolding head_tolerance header_of settings_header
no_targets p f none n =
    let zeros : get_or p.tolerances 0 zero·0 ≡ zero·0 = get_or-eq_default p.tolerances zero·0 {n = 0} (omega (arith, f.tolerances_length, none)) in
    let bits : to_bits binary64 (get_or p.tolerances 0 zero·0) ≡ 0 = ap (to_bits binary64) zeros ∙ zero_bits in
    let panel : Vector = head_panel p in
    ap₂ (λ (rows t : ℕ). header_text rows (times_of p) n t (has_roll p.configured) (roll_bits p.configured)
    (to_bits binary64 (x panel)) (to_bits binary64 (y panel)) (to_bits binary64 (z panel))) none bits
