-- `sweep_chunk`: a chunk that is not refused has its cells among those of the rows and times. Assumes nothing.
use Prim.Native.Nat.{ℕ, ◌+◌, ◌*◌}
use mathlib.Core.Path.{◌≡◌, sym, ap, ◌∙◌}
use native.Mathlib.Omega.{arith}
use borrow.Author.Rules.{rules}
use lib.ListN.{length}
use Rattle.std.specs.Prelude.{Err}
use Rattle.buffers.proofs.Refusals.{err_replied, ok_replied}
use Rattle.solar_roll.specs.Plan.{Plan, lent}
use Rattle.roll_sweep.specs.Chunk.{violates_by, sample_roll, swept_by}
use Rattle.roll_sweep.proofs.ChunkFacts.{ChunkFacts, chunk_facts, held, first_below}
use Rattle.roll_sweep.proofs.chunk.sweep_chunk.Goals as goal
use Rattle.roll_sweep.proofs.chunk.sweep_chunk.Goals.{In_ok-chunk_refusal}

facts : (c : In_ok-chunk_refusal) →
    let a = c.args in
    ChunkFacts c.rows-rows.result a.times (length a.units.now) (length a.rolls.now) a.chunk
facts c = chunk_facts _ _ _ _ _ (sym c.in_ok-chunk_refusal.ensures)

pub returns-in_err-chunk_refusal : goal.returns-in_err-chunk_refusal
returns-in_err-chunk_refusal c =
    let e : c.from_residual.result ≡ Err c.in_err-chunk_refusal.field-0.0 = search rules in
    rw (e, ← c.rows-rows.ensures) (err_replied _ _ _ c.in_err-chunk_refusal.ensures)

pub overflow_mul-first : goal.overflow_mul-first
overflow_mul-first c =
    let f = facts c in
    record { fits = omega (arith, first_below f, f.few_cells) }

pub overflow_mul-rows : goal.overflow_mul-rows
overflow_mul-rows c = record { fits = omega (arith, (facts c).few_cells) }

pub sweep_samples-requires : goal.sweep_samples-requires
sweep_samples-requires c =
    let f = facts (goal.at.sweep_samples-requires c).In_ok-chunk_refusal in
    let h = held _ _ _ _ _ _ f c.cells_in-cells.ensures in
    (h.few, f.most, h.positive, f.few_times, f.some_unit, h.within, f.one)

pub returns : goal.returns
returns c =
    let a = c.args in
    let p : Plan = lent a.plan.now in
    rw (← c.rows-rows.ensures)
    (ok_replied _ _ _ c.in_ok-chunk_refusal.ensures (c.sweep_samples.ensures
    ∙ ap (λ (w : ℕ). swept_by w (length a.rolls.now) (λ k s. violates_by p.targets a.times a.units.now p.tolerances p.configured p.panels (64 * a.chunk + k) (sample_roll a.rolls.now p.configured s))) c.cells_in-cells.ensures))
