-- What the calls ask of the plan's sweep, over any rolls: its refusals, its samples and its header, and what is known once the plan has passed. Assumes nothing.
use mathlib.Core.Path.{◌≡◌, refl, sym, ap, ap₂, ◌∙◌, subst}
use mathlib.Core.Bool.{Bool}
use mathlib.Core.List.{List, []}
use Prim.Native.Nat.{ℕ, ◌+◌, ◌*◌, ◌%◌, ◌≤◌, ◌<◌}
use native.Mathlib.Omega.{arith}
use lib.Dec.{ltb}
use lib.ListN.{length, get_or, take, replicate, length-replicate}
use lib.Ieee.{Float, binary64, to_bits}
use borrow.Author.Tests.{le-ltb, ltb-false}
use Rattle.buffers.specs.Ranges.{tab}
use Rattle.buffers.specs.Refusal.{accepted}
use Rattle.std.specs.Prelude.{Option, Result, Ok, Err}
use Rattle.buffers.specs.Refusal.{number_of, found}
use Rattle.buffers.specs.declared.reasons.Refusal.{Refusal}
use Rattle.buffers.proofs.Refusals.{reply_none, number_positive}
use Rattle.buffers.specs.Lent.{over, put}
use Rattle.buffers.proofs.Lent.{put_first, over_all}
use Rattle.solar_roll.specs.Vectors.{Vector, x, y, z}
use Rattle.solar_roll.specs.Plan.{Plan, rows_of, times_of, head_tolerance, head_panel, samples_refusal, plan_refusal, sun_at, most_samples, PlanFacts}
use Rattle.solar_roll.proofs.PlanFacts.{plan_facts, nothing_said, not_beyond}
use Rattle.roll_sweep.specs.Sweep.{Sweep, chunks, cells_in}
use Rattle.roll_sweep.specs.Rolls.{even_rolls}
use Rattle.roll_sweep.specs.Chunk.{violates_by, sample_roll, swept_of, chunk_refusal, swept_reply}
use Rattle.roll_sweep.proofs.Even.{length_even}
use Rattle.roll_sweep.proofs.ChunkFacts.{some, samples_within, samples_passed, Held, chunk_facts, held, chunk_accepted}
use Rattle.roll_sweep.proofs.SweptCells.{swept_ext, swept_chunk}
use Rattle.roll_sweep.proofs.Cells.{cell_violates, unit_of_time, unit_of_cell}
use Rattle.journal.specs.Header.{has_roll, roll_bits, settings_header, header_of}
use Rattle.journal.specs.Pass.{Passed}
use Rattle.journal.specs.Plan.{sweep_of, even_sweep, Says}
use Rattle.journal.specs.Lines.{header_length}
use Rattle.journal.specs.Range.{Ranged}
use Rattle.journal.proofs.Chains.{range_alike}
use Rattle.journal.proofs.Write.{length_header}
use Rattle.journal.proofs.Written.{SweepFacts}

-- what is known once the plan has passed
pub record PlanPassed (p : Plan) (said room u : ℕ) : Type 0 where
  pub facts : PlanFacts p
  pub none_said : said ≡ 0
  pub used : u ≤ room

-- a header has 107 bytes, so it fills as many
pub length_settings : (targets times n : ℕ) (tolerance : Float) (configured : Option Float) (panel : Vector) → length (settings_header targets times n tolerance configured panel) ≡ header_length
unfolding settings_header
length_settings targets times n tolerance configured panel =
    length_header targets times n (to_bits binary64 tolerance) (has_roll configured) (roll_bits configured)
    (to_bits binary64 (x panel)) (to_bits binary64 (y panel)) (to_bits binary64 (z panel))

-- ---- the sweep of a plan over a list of rolls

module _ (p : Plan) (rolls : List Float) (said : ℕ) where
  -- the refusal that the plan's call gave is the sweep's
  pub refusal_said : (k : ℕ) (beyond : Bool) → k ≡ plan_refusal p said beyond → k ≡ (sweep_of p rolls said).refusal beyond
  unfolding sweep_of
  refusal_said k beyond e = e

  pub passed : (room u : ℕ) → (sweep_of p rolls said).refusal (ltb room u) ≡ 0 → PlanPassed p said room u
  unfolding sweep_of
  passed room u h = record {
    facts = plan_facts p said (ltb room u) h;
    none_said = nothing_said p said (ltb room u) h;
    used = ltb-false room u (not_beyond p said (ltb room u) h);
  }

  -- the header has 107 bytes
  pub length_header_of : length (sweep_of p rolls said).header ≡ header_length
  unfolding sweep_of header_of
  length_header_of = length_settings (rows_of p) (times_of p) (length rolls) (head_tolerance p) p.configured (head_panel p)

  -- so the plan's sweep is one of an accepted plan: with 1 to 3,600 samples
  pub sweep_facts : 1 ≤ (sweep_of p rolls said).samples → (sweep_of p rolls said).samples ≤ most_samples → (room u : ℕ) → (sweep_of p rolls said).refusal (ltb room u) ≡ 0 → SweepFacts (sweep_of p rolls said)
  unfolding sweep_of
  sweep_facts one most room u e =
      let f = passed room u e in
      record {
        plan = ap (plan_refusal p said) (sym (le-ltb room u f.used)) ∙ e;
        few = f.facts.few_cells;
        one = one;
        most = most;
        header = length_header_of;
      }

  -- or by what is said of them
  pub accepted_sweep : Says said (length rolls) → (room u : ℕ) → (sweep_of p rolls said).refusal (ltb room u) ≡ 0 → SweepFacts (sweep_of p rolls said)
  unfolding sweep_of
  accepted_sweep says room u e = let k = samples_within (length rolls) (says (passed room u e).none_said) in sweep_facts k.0 k.1 room u e

  module _ (n : ℕ) (size : length rolls ≡ n) where
    pub header_put : (b out : List ℕ) → out ≡ over (header_of p n) b → out ≡ put 0 (sweep_of p rolls said).header b
    unfolding sweep_of
    header_put b out e = e ∙ sym (put_first (header_of p n) b) ∙ ap (λ (k : ℕ). put 0 (header_of p k) b) (sym size)

    -- the plan's sweep, by the header that was written: over a blank array of its length
    pub passed_with : Says said n → (h : List ℕ) (room u : ℕ) → (sweep_of p rolls said).refusal (ltb room u) ≡ 0
        → h ≡ over (header_of p n) (replicate header_length 0)
        → Passed (sweep_of p rolls said) (record { header = h; cells = rows_of p * times_of p; samples = n }) room u
    unfolding sweep_of header_of
    passed_with says h room u e w =
        let f = passed room u e in
        let k = samples_within n (says f.none_said) in
        let long : length (header_of p n) ≡ header_length = length_settings (rows_of p) (times_of p) n (head_tolerance p) p.configured (head_panel p) in
        let written : h ≡ header_of p n = w ∙ over_all (header_of p n) (replicate header_length 0) (omega (arith, length-replicate {A = ℕ} header_length 0)) in
        record {
          plan = e;
          all = refl;
          samples = size;
          header = ap (header_of p) size ∙ sym written;
          sizes = record { header = ap length written ∙ long; few = f.facts.few_cells; most = k.1 };
          one = k.0;
          used = f.used;
        }

-- over rolls that are the even ones, by the number that was said of n
pub even_sweep_lem : (p : Plan) (n : ℕ) (rolls : List Float) (said : ℕ) → rolls ≡ even_rolls n → said ≡ samples_refusal n → sweep_of p rolls said ≡ even_sweep p n
even_sweep_lem p n rolls said e z = ap₂ (sweep_of p) e z

-- or where that refuses the plan, over whatever rolls
pub even_or_refused : (p : Plan) (n : ℕ) (rolls : List Float) (said : Result Unit Refusal) → found said ≡ samples_refusal n → (found said ≡ 0 → rolls ≡ even_rolls n)
    → (from to : ℕ) (b : List ℕ) (u old : ℕ) (r : Result ℕ Refusal) (o : List ℕ) (c : ℕ) → Ranged (sweep_of p rolls (found said)) from to b u old r o c → Ranged (even_sweep p n) from to b u old r o c
unfolding sweep_of
even_or_refused p n rolls (Ok done) z e from to b u old r o c q = subst (λ (s : Sweep). Ranged s from to b u old r o c) (even_sweep_lem p n rolls 0 (e refl) z) q
even_or_refused p n rolls (Err why) z e from to b u old r o c q =
    let k = plan_refusal p (number_of why) (ltb (length b) u) in
    range_alike (sweep_of p rolls (number_of why)) (even_sweep p n) from to b u old r o c k refl (ap (λ (said : ℕ). plan_refusal p said (ltb (length b) u)) z)
    (some k (λ h. omega (arith, nothing_said p (number_of why) (ltb (length b) u) h, number_positive why))) q

-- the even rolls are as many as was said
pub even_says : (n : ℕ) → Says (samples_refusal n) (length (even_rolls n))
even_says n e = ap samples_refusal (length_even n) ∙ e

-- ---- the sweep of a chunk of an accepted plan is not refused, and gives what the plan's sweep has

module _ (p : Plan) (rolls : List Float) (said c : ℕ) (f : PlanFacts p) (one : 1 ≤ length rolls) (most : length rolls ≤ most_samples) (exists : c < chunks (rows_of p * times_of p)) where
  not_refused : (units : ℕ) → 0 < units → chunk_refusal (rows_of p) (times_of p) units (length rolls) c ≡ 0
  not_refused units u = chunk_accepted p units (length rolls) c f u (samples_passed (length rolls) one most) exists

  -- its cells
  pub chunk_held : (w : ℕ) → w ≡ cells_in (rows_of p * times_of p) c → Held (rows_of p) (times_of p) c w
  chunk_held w e = held _ _ _ _ _ w (chunk_facts _ _ _ _ _ (not_refused 1 (omega arith))) e

  -- by a table that has the Sun's unit at each of its cells
  swept_by_lem : (units : List Vector) → 0 < length units
      → ((k : ℕ) → k < cells_in (rows_of p * times_of p) c → get_or units ((64 * c + k) % length units) [] ≡ sun_at p ((64 * c + k) % times_of p))
      → swept_reply p.targets (times_of p) units p.tolerances p.configured p.panels rolls c ≡ accepted (swept_of (sweep_of p rolls said) c)
  unfolding sweep_of
  swept_by_lem units some unit =
      let w : ℕ = cells_in (rows_of p * times_of p) c in
      let v : ℕ → ℕ → Bool = λ k j. violates_by p.targets (times_of p) units p.tolerances p.configured p.panels (64 * c + k) (sample_roll rolls p.configured j) in
      reply_none _ _ (not_refused (length units) some)
      ∙ ap accepted (swept_ext w (length rolls) v (λ k. (sweep_of p rolls said).violates (64 * c + k))
      (λ k j h g. cell_violates p rolls units (64 * c + k) j (unit k h))
      ∙ swept_chunk (sweep_of p rolls said) c w refl)

  -- of all times
  pub swept_by_times : (units : List Vector) → 0 < length units → units ≡ tab (times_of p) (sun_at p)
      → swept_reply p.targets (times_of p) units p.tolerances p.configured p.panels rolls c ≡ accepted (swept_of (sweep_of p rolls said) c)
  swept_by_times units some e = swept_by_lem units some (λ k h. unit_of_time p units (64 * c + k) (chunk_held _ refl).positive e)

  -- of its own cells
  pub swept_by_cells : (units : List Vector) (w : ℕ) → w ≡ cells_in (rows_of p * times_of p) c → length units ≡ 64 → take w units ≡ tab w (λ k. sun_at p ((64 * c + k) % times_of p))
      → swept_reply p.targets (times_of p) units p.tolerances p.configured p.panels rolls c ≡ accepted (swept_of (sweep_of p rolls said) c)
  swept_by_cells units w e size u =
      swept_by_lem units (omega arith) (λ k h. unit_of_cell p units c w k (chunk_held w e).few size u (omega arith))
