-- `journal::range::append_swept` meets its contract. Assumes nothing.
use mathlib.Core.Bool.{Bool, true, false}
use mathlib.Core.Path.{◌≡◌, sym, ap, ◌∙◌}
use Prim.Native.Nat.{ℕ, ◌+◌, ◌-◌, ◌≤◌}
use native.Mathlib.Omega.{arith}
use lib.ListN.{length}
use Rattle.buffers.specs.Lent.{put}
use Rattle.solar_roll.specs.Plan.{lent}
use Rattle.roll_sweep.specs.Sweep.{Sweep, cells, chunks}
use Rattle.roll_sweep.specs.declared.chunk.Swept.{Swept}
use Rattle.journal.specs.Lines.{line_length, line_text, line_of}
use Rattle.journal.specs.Plan.{sweep_of}
use Rattle.journal.specs.Range.{ran_to}
use Rattle.journal.proofs.Scan.{chunks_le}
use Rattle.journal.proofs.Written.{SweepFacts}
use Rattle.journal.proofs.Along.{is_refused, along_start, along_stop, along_end, next_exists, next_room, along_next}
use Rattle.journal.proofs.Planned.{PlanPassed, passed, sweep_facts}
use Rattle.journal.proofs.range.append_swept.Goals as goal
use Rattle.journal.proofs.range.append_swept.Goals.{Start, After-div_ceil-chunks, After-is_refused, Else-is_refused}

abbrev sweep : Start → Sweep
sweep c = sweep_of (lent c.args.plan.now) c.args.rolls.now 0

known : (c : Start) → PlanPassed (lent c.args.plan.now) 0 (length c.args.journal.now) c.args.used
known c = passed _ _ _ _ _ c.requires.1.1.plan

facts : (c : Start) → SweepFacts (sweep c)
facts c = let r = c.requires.1.1 in sweep_facts _ _ _ r.one r.most (length c.args.journal.now) c.args.used r.plan

-- how many chunks there are
counted : (c : After-div_ceil-chunks) → c.div_ceil-chunks.result ≡ chunks (cells (sweep_of (lent c.args.plan.now) c.args.rolls.now 0))
unfolding sweep_of chunks
counted c = rw (← c.rows.ensures, ← c.times.ensures) (omega (arith, c.div_ceil-chunks.ensures))

-- the test of the next chunk, of so many
told : (c : After-is_refused) (m : ℕ) (t : Bool) → c.div_ceil-chunks.result ≡ m → c.is_refused.result ≡ t →
    is_refused m c.args.seen.now (length c.loop.journal - c.loop.at) c.loop.chunk ≡ t
told c m t n e = rw (← n) (sym c.is_refused.ensures ∙ e)

pub overflow_mul-rows : goal.overflow_mul-rows
overflow_mul-rows c = let k = known (goal.at.overflow_mul-rows c).Start in rw (c.rows.ensures, c.times.ensures) (omega (arith, k.facts.few_cells))

pub loop-init : goal.loop-init
loop-init c = let a = c.args in
    let all : a.limit - 0 ≡ a.limit = omega arith in
    rw all (along_start _ (facts (goal.at.loop-init c).Start) a.from a.limit a.seen.now a.journal.now a.used _ c.requires.1.1 (known (goal.at.loop-init c).Start).used)

pub overflow_sub-journal : goal.overflow_sub-journal
overflow_sub-journal c = omega (arith, c.loop.invariant.within)

pub is_refused-requires : goal.is_refused-requires
unfolding chunks
is_refused-requires c = let at = goal.at.is_refused-requires c in
    (c.loop.invariant.count, rw (counted at.After-div_ceil-chunks) (chunks_le _ (facts at.Start).few))

pub returns-then-is_refused : goal.returns-then-is_refused
returns-then-is_refused c = let p = c.loop in
    let a = c.args in
    let at = goal.at.returns-then-is_refused c in
    ap (λ (u : ℕ). ran_to p.journal u p.chunk) (sym p.invariant.used)
    ∙ along_stop _ (facts at.Start) a.from a.limit a.seen.now a.journal.now a.used p.chunk _ p.journal p.at p.invariant (told at.After-is_refused _ true (counted at.After-div_ceil-chunks) c.if-is_refused.true)

pub sweep_rolls-swept-requires : goal.sweep_rolls-swept-requires
unfolding sweep_of
sweep_rolls-swept-requires c = let p = c.loop in
    let a = c.args in
    let at = goal.at.sweep_rolls-swept-requires c in
    let r = c.requires.1.1 in (
      (known at.Start).facts,
      r.one,
      r.most,
      c.requires.0,
      next_exists _ (facts at.Start) a.from a.limit a.seen.now a.journal.now a.used p.chunk _ p.journal p.at p.invariant (told at.After-is_refused _ false (counted at.After-div_ceil-chunks) c.if-is_refused.false),
    )

-- there is room for its line
room : (c : Else-is_refused) → SweepFacts (sweep_of (lent c.args.plan.now) c.args.rolls.now 0) →
    is_refused (chunks (cells (sweep_of (lent c.args.plan.now) c.args.rolls.now 0))) c.args.seen.now (length c.loop.journal - c.loop.at) c.loop.chunk ≡ false →
    c.loop.at + line_length ≤ length c.loop.journal
room c f t = let p = c.loop in
    let a = c.args in
    next_room _ f a.from a.limit a.seen.now a.journal.now a.used p.chunk _ p.journal p.at p.invariant t

pub append_line-requires : goal.append_line-requires
append_line-requires c = let at = goal.at.append_line-requires c in
    room at.Else-is_refused (facts at.Start) (told at.After-is_refused _ false (counted at.After-div_ceil-chunks) c.if-is_refused.false)

pub loop-preserved : goal.loop-preserved
unfolding line_of
loop-preserved c = let p = c.loop in
    let a = c.args in
    let at = goal.at.loop-preserved c in
    let left : a.limit - (p.counter + 1) ≡ a.limit - p.counter - 1 = omega arith in
    rw left (along_next _ (facts at.Start) a.from a.limit a.seen.now a.journal.now a.used p.chunk _ p.journal p.at p.invariant
    (told at.After-is_refused _ false (counted at.After-div_ceil-chunks) c.if-is_refused.false) _ (omega arith)
    (c.append_line.ensures ∙ ap (λ (r : Swept). put p.at (line_text p.chunk r.mask r.probes) p.journal) c.sweep_rolls-swept.ensures))

pub returns : goal.returns
returns c = let p = c.loop in
    let a = c.args in
    ap (λ (u : ℕ). ran_to p.journal u p.chunk) (sym p.invariant.used)
    ∙ along_end _ (facts (goal.at.returns c).Start) a.from a.limit a.seen.now a.journal.now a.used p.chunk _ p.journal p.at p.invariant (omega arith)
