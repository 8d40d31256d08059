-- `journal::accepted::check_work` meets its contract. Assumes nothing.
use mathlib.Core.Bool.{true, false}
use mathlib.Core.Path.{◌≡◌, sym, ap, ◌∙◌}
use Prim.Native.Nat.{◌<◌}
use native.Mathlib.Omega.{arith}
use lib.ListN.{length}
use Rattle.std.specs.Prelude.{Err}
use Rattle.std.proofs.lemmas.Result.{err_from_is_err_and}
use Rattle.buffers.specs.Refusal.{found, number_of}
use Rattle.roll_sweep.specs.Sweep.{Sweep, cells, chunks}
use Rattle.journal.specs.Lines.{has_chunk}
use Rattle.journal.specs.Right.{whole_lines, torn, right}
use Rattle.journal.specs.Calls.{wrong}
use Rattle.journal.specs.Pass.{most_chunks, Tables, Passed}
use Rattle.journal.proofs.Chains.{wrong_of, work_9, work_11, work_12, work_10, work_7, work_0}
use Rattle.journal.proofs.Scan.{told_wrong, told_right}
use Rattle.journal.proofs.accepted.check_work.Goals as goal
use Rattle.journal.proofs.accepted.check_work.Goals.{Else-div_ceil-chunk, Else-is_torn, After-is_torn}

-- the chunk exists, so it is one of 16,384
exists : (c : Else-div_ceil-chunk) (s : Sweep) → cells s ≡ c.args.plan.now.cells → c.args.chunk < chunks (cells s)
unfolding chunks
exists c s e = omega (arith, c.if-div_ceil-chunk.false, c.div_ceil.ensures)

within : (c : Else-div_ceil-chunk) → c.args.chunk < most_chunks
within c = omega (arith, c.if-div_ceil-chunk.false, c.div_ceil.ensures, c.requires.bounded.sizes.few)

-- the journal is right
is_right : (c : After-is_torn) →
    let a = c.args in
    right a.plan.now.cells a.plan.now.samples a.plan.now.header a.journal.now a.used ≡ true
is_right c = (told_right _ _ _ _ _ c.check_journal.ensures.checked c.in_ok-ok_or.ensures.value).0

not_wrong : (c : After-is_torn) (s : Sweep) → Passed s c.args.plan.now (length c.args.journal.now) c.args.used → wrong s c.args.journal.now c.args.used ≡ false
not_wrong c s q = let a = c.args in wrong_of s a.plan.now a.journal.now a.used true q (is_right c)

-- the tables are its lines'
tables : (c : After-is_torn) →
    let a = c.args in
    Tables a.journal.now (whole_lines a.used) c.check_journal.new.seen c.check_journal.new.masks
tables c = c.check_journal.ensures.tables (is_right c)

-- it has no tail
whole : (c : Else-is_torn) → torn c.args.used ≡ false
whole c = sym c.is_torn.ensures ∙ c.if-is_torn.false

pub returns-then-div_ceil-chunk-clause-refusal : goal.returns-then-div_ceil-chunk-clause-refusal
unfolding chunks
returns-then-div_ceil-chunk-clause-refusal c s q = let a = c.args in
    sym (work_9 s a.journal.now a.used a.chunk q.plan (omega (arith, c.if-div_ceil-chunk.true, c.div_ceil.ensures, q.all)))

pub returns-in_err-ok_or-clause-refusal : goal.returns-in_err-ok_or-clause-refusal
returns-in_err-ok_or-clause-refusal c s q = let a = c.args in
    let b = a.journal.now in
    let p = err_from_is_err_and c.from_residual.result c.from_residual.ensures.1 in
    let w = told_wrong _ _ _ _ _ c.check_journal.ensures.checked c.in_err-ok_or.ensures.value in
    ap found (p.1 ∙ ap Err p.2)
    ∙ ap number_of w.1
    ∙ sym (work_11 s b a.used a.chunk q.plan (exists (goal.at.returns-in_err-ok_or-clause-refusal c).Else-div_ceil-chunk s q.all) (wrong_of s a.plan.now b a.used false q w.0))

pub returns-then-is_torn-clause-refusal : goal.returns-then-is_torn-clause-refusal
returns-then-is_torn-clause-refusal c s q = let a = c.args in
    let at = goal.at.returns-then-is_torn-clause-refusal c in
    sym (work_12 s a.journal.now a.used a.chunk q.plan (exists at.Else-div_ceil-chunk s q.all) (not_wrong at.After-is_torn s q) (sym c.is_torn.ensures ∙ c.if-is_torn.true))

pub returns-then-seen-chunk-clause-refusal : goal.returns-then-seen-chunk-clause-refusal
returns-then-seen-chunk-clause-refusal c s q = let a = c.args in
    let at = goal.at.returns-then-seen-chunk-clause-refusal c in
    let has : has_chunk a.journal.now (whole_lines a.used) a.chunk ≡ true = sym ((tables at.After-is_torn).flags.chunk a.chunk (within at.Else-div_ceil-chunk)) ∙ c.if-seen-chunk.true in
    sym (work_10 s a.journal.now a.used a.chunk q.plan (exists at.Else-div_ceil-chunk s q.all) (not_wrong at.After-is_torn s q) (whole at.Else-is_torn) has)

pub returns-then-journal-used-clause-refusal : goal.returns-then-journal-used-clause-refusal
returns-then-journal-used-clause-refusal c s q = let a = c.args in
    let at = goal.at.returns-then-journal-used-clause-refusal c in
    let new : has_chunk a.journal.now (whole_lines a.used) a.chunk ≡ false = sym ((tables at.After-is_torn).flags.chunk a.chunk (within at.Else-div_ceil-chunk)) ∙ c.if-seen-chunk.false in
    sym (work_7 s a.journal.now a.used a.chunk q.plan (exists at.Else-div_ceil-chunk s q.all) (not_wrong at.After-is_torn s q) (whole at.Else-is_torn) new (omega (arith, c.if-journal-used.true, q.used)))

pub returns-clause-refusal : goal.returns-clause-refusal
returns-clause-refusal c s q = let a = c.args in
    let at = goal.at.returns-clause-refusal c in
    let new : has_chunk a.journal.now (whole_lines a.used) a.chunk ≡ false = sym ((tables at.After-is_torn).flags.chunk a.chunk (within at.Else-div_ceil-chunk)) ∙ c.if-seen-chunk.false in
    sym (work_0 s a.journal.now a.used a.chunk q.plan (exists at.Else-div_ceil-chunk s q.all) (not_wrong at.After-is_torn s q) (whole at.Else-is_torn) new (omega (arith, c.if-journal-used.false, q.used)))
