-- What is known of a chunk whose sweep is not refused, and that a chunk of an accepted plan is not. Assumes nothing.
use mathlib.Core.Path.{◌≡◌, refl, ◌∙◌}
use mathlib.Core.Bool.{Bool, true, false, cond, ◌&&◌}
use Prim.Native.Nat.{ℕ, zero, suc, ◌+◌, ◌*◌, ◌≤◌, ◌<◌}
use native.Mathlib.Omega.{arith}
use lib.Dec.{eqb, leb, lit<}
use borrow.Author.Tests.{eqb-false, leb-true, leb-false, ne_eqb, lt-leb, le-leb}
use Rattle.std.specs.Prelude.{Result, Ok, Err}
use Rattle.buffers.specs.Refusal.{accepted, replied}
use Rattle.buffers.specs.declared.reasons.Refusal.{Refusal}
use Rattle.buffers.proofs.Refusals.{first_none, first_skip, first_clear, carried_skip, carried_clear}
use Rattle.buffers.proofs.Tests.{and_left, and_right}
use Rattle.buffers.proofs.Rows.{some_time}
use Rattle.solar_roll.specs.Plan.{Plan, rows_of, times_of, most_rows, most_times, most_cells, most_samples, too_many, samples_refusal, PlanFacts}
use Rattle.solar_roll.proofs.PlanFacts.{few, not_too_many, few_of_plan}
use Rattle.roll_sweep.specs.Sweep.{chunks, cells_in}
use Rattle.roll_sweep.specs.Chunk.{chunk_refusal}
use Rattle.roll_sweep.specs.declared.chunk.Swept.{Swept}

pub record ChunkFacts (rows times units samples c : ℕ) : Type 0 where
  pub some_unit : 0 < units
  pub few_rows : rows ≤ most_rows
  pub few_times : times ≤ most_times
  pub few_cells : rows * times ≤ most_cells
  pub one : 1 ≤ samples
  pub most : samples ≤ most_samples
  pub exists : c < chunks (rows * times)

-- what is not 0 is positive
pub some : (n : ℕ) → (n ≡ 0 → ⊥) → 0 < n
some zero h = absurd (h refl)
some (suc n) h = omega arith

-- 1 to 3,600 samples
pub samples_within : (n : ℕ) → samples_refusal n ≡ 0 → (1 ≤ n) × (n ≤ most_samples)
unfolding samples_refusal
samples_within n e =
    let b = go (leb 1 n && leb n most_samples) e in
    (leb-true _ _ (and_left (leb 1 n) (leb n most_samples) b), leb-true _ _ (and_right (leb 1 n) (leb n most_samples) b))
  where
    go : (b : Bool) → ◌≡◌ {A = ℕ} (cond b 0 3) 0 → b ≡ true
    go true e = refl
    go false e = absurd (omega arith)

pub samples_passed : (n : ℕ) → 1 ≤ n → n ≤ most_samples → samples_refusal n ≡ 0
unfolding samples_refusal
samples_passed n h l = simp (le-leb 1 n h, le-leb n most_samples l)

pub chunk_facts : (rows times units samples c : ℕ) → chunk_refusal rows times units samples c ≡ 0 → ChunkFacts rows times units samples c
unfolding chunk_refusal
chunk_facts rows times units samples c h =
    let c0 = first_clear _ _ _ (lit< tt) h in
    let c1 = first_clear _ _ _ (lit< tt) c0.1 in
    let c2 = carried_clear _ _ c1.1 in
    let c3 = first_clear _ _ _ (lit< tt) c2.1 in
    let few_of = few rows times c1.0 in
    let s = samples_within samples c2.0 in
    record {
      some_unit = some units (eqb-false _ _ c0.0);
      few_rows = few_of.few_rows;
      few_times = few_of.few_times;
      few_cells = few_of.few_cells;
      one = s.0;
      most = s.1;
      exists = leb-false _ _ c3.0;
    }

-- its first cell
pub first_below : {rows times units samples c : ℕ} → ChunkFacts rows times units samples c → 64 * c < rows * times
unfolding chunks
first_below f = omega (arith, f.exists)

-- its w cells
pub record Held (rows times c w : ℕ) : Type 0 where
  pub few : w ≤ 64
  pub positive : 0 < times
  pub within : 64 * c + w ≤ most_cells
  pub whole : w ≡ cells_in (rows * times) c

pub held : (rows times units samples c w : ℕ) → ChunkFacts rows times units samples c → w ≡ cells_in (rows * times) c → Held rows times c w
unfolding cells_in
held rows times units samples c w f e =
    let h = first_below f in
    record { few = omega arith; positive = some_time rows times 0 (omega arith); within = omega arith; whole = e }

-- a chunk of a plan that is not refused, with a unit or more
pub chunk_accepted : (p : Plan) (units samples c : ℕ) → PlanFacts p → 0 < units → samples_refusal samples ≡ 0 → c < chunks (rows_of p * times_of p)
    → chunk_refusal (rows_of p) (times_of p) units samples c ≡ 0
unfolding chunk_refusal
chunk_accepted p units samples c f u s h =
    first_skip (eqb units 0) _ _ (ne_eqb units 0 (omega arith))
    ∙ first_skip (too_many (rows_of p) (times_of p)) _ _ (not_too_many (few_of_plan f))
    ∙ carried_skip _ _ s
    ∙ first_skip _ _ _ (lt-leb _ _ h)
    ∙ first_none

-- a sweep whose answer is accepted gives what the reply has, and is never refused
pub answer_swept : (a : Result Swept Refusal) (x s : Swept) → replied a ≡ accepted x → a ≡ Ok s → s ≡ x
answer_swept (Ok y) x s h q = cc
answer_swept (Err why) x s h q = absurd cc

pub answer_never : (a : Result Swept Refusal) (why : Refusal) (x : Swept) → replied a ≡ accepted x → a ≡ Err why → ⊥
answer_never (Ok y) why x h q = cc
answer_never (Err k) why x h q = cc
