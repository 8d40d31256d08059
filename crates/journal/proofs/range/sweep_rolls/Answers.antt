-- `journal::range::sweep_rolls` meets its contract. Assumes nothing.
use mathlib.Core.Path.{◌≡◌, refl, ◌∙◌}
use native.Mathlib.Omega.{arith}
use Rattle.std.specs.Prelude.{Result, Ok, Err}
use Rattle.std.specs.Result.{IsOk}
use Rattle.buffers.specs.Refusal.{accepted, replied}
use Rattle.buffers.specs.declared.reasons.Refusal.{Refusal}
use Rattle.roll_sweep.specs.declared.chunk.Swept.{Swept}
use Rattle.roll_sweep.specs.Chunk.{swept_of}
use Rattle.journal.specs.Plan.{sweep_of}
use Rattle.solar_roll.specs.Plan.{lent, rows_of, times_of, sun_at}
use Rattle.roll_sweep.proofs.ChunkFacts.{Held, answer_swept, answer_never}
use Rattle.journal.proofs.Planned.{chunk_held, swept_by_times, swept_by_cells}
use Rattle.journal.proofs.range.sweep_rolls.Goals as goal
use Rattle.journal.proofs.range.sweep_rolls.Goals.{After-cells_in-cells, After-sweep_chunk, After-sweep_chunk-2}

-- the chunk's cells
cells_held : (c : After-cells_in-cells) → Held (rows_of (lent c.args.plan.now)) (times_of (lent c.args.plan.now)) c.args.chunk c.cells_in-cells.result
cells_held c =
    chunk_held (lent c.args.plan.now) c.args.rolls.now 0 c.args.chunk c.requires.0 c.requires.1 c.requires.2 c.requires.4 _
    (rw (← c.rows.ensures, ← c.times-times.ensures) c.cells_in-cells.ensures)

-- a sweep that is not refused has a value
ok : (r : Result Swept Refusal) (x : Swept) → replied r ≡ accepted x → IsOk r
ok (Ok y) x e = refl
ok (Err why) x e = absurd (answer_never _ why x e refl)

-- by the units of all times
by_times : (c : After-sweep_chunk) → replied c.sweep_chunk.result ≡ accepted (swept_of (sweep_of (lent c.args.plan.now) c.args.rolls.now 0) c.args.chunk)
by_times c = let some = c.if-units-gt0.true in
    (rw (← c.times-times.ensures) c.sweep_chunk.ensures)
    ∙ swept_by_times (lent c.args.plan.now) c.args.rolls.now 0 c.args.chunk c.requires.0 c.requires.1 c.requires.2 c.requires.4 c.args.units.now some (c.requires.3 some)

-- by those of its own cells
by_cells : (c : After-sweep_chunk-2) → replied c.sweep_chunk-2.result ≡ accepted (swept_of (sweep_of (lent c.args.plan.now) c.args.rolls.now 0) c.args.chunk)
unfolding sun_at
by_cells c = let units = c.chunk_units-own in
    rw (← c.times-times.ensures) c.sweep_chunk-2.ensures
    ∙ swept_by_cells (lent c.args.plan.now) c.args.rolls.now 0 c.args.chunk c.requires.0 c.requires.1 c.requires.2 c.requires.4 units.result _
    (rw (← c.rows.ensures, ← c.times-times.ensures) c.cells_in-cells.ensures) (omega arith) units.ensures

pub unwrap-requires : goal.unwrap-requires
unwrap-requires c = ok _ _ (by_times c)

pub returns-then-units-gt0 : goal.returns-then-units-gt0
returns-then-units-gt0 c = answer_swept _ _ _ (by_times (goal.at.returns-then-units-gt0 c).After-sweep_chunk) c.unwrap.ensures

pub overflow_mul-chunk : goal.overflow_mul-chunk
overflow_mul-chunk c = omega (arith, (cells_held (goal.at.overflow_mul-chunk c).After-cells_in-cells).within)

pub chunk_units-own-requires : goal.chunk_units-own-requires
chunk_units-own-requires c = let h = cells_held (goal.at.chunk_units-own-requires c).After-cells_in-cells in
    (h.few, h.positive, omega (arith, h.within))

pub unwrap-requires-2 : goal.unwrap-requires-2
unwrap-requires-2 c = ok _ _ (by_cells c)

pub returns : goal.returns
returns c = answer_swept _ _ _ (by_cells (goal.at.returns c).After-sweep_chunk-2) c.unwrap-2.ensures
