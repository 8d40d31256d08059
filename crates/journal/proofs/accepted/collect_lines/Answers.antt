-- `journal::accepted::collect_lines` meets its contract. Assumes nothing.
use mathlib.Core.Bool.{Bool, true, false}
use mathlib.Core.Path.{◌≡◌, sym, ap, ◌∙◌}
use Prim.Native.Nat.{ℕ}
use native.Mathlib.Omega.{arith}
use lib.ListN.{length}
use Rattle.std.specs.Prelude.{Err}
use Rattle.std.proofs.lemmas.Result.{err_from_is_err_and}
use Rattle.buffers.specs.Lent.{filled}
use Rattle.buffers.specs.Refusal.{replied, number_of}
use Rattle.roll_sweep.specs.Sweep.{Sweep, cells, chunks}
use Rattle.journal.specs.Right.{whole_lines, torn, right}
use Rattle.journal.specs.Calls.{wrong, held_bit}
use Rattle.journal.specs.Lines.{has_chunks, held_probes}
use Rattle.journal.specs.Pass.{Tables, Passed}
use Rattle.journal.proofs.Chains.{wrong_of, collect_11, collect_12, collect_15, collect_7, collect_0, collect_err, collect_ok}
use Rattle.journal.proofs.Scan.{told_wrong, told_right}
use Rattle.journal.proofs.Cells.{cell_bit, all_have_lines, held_bits, filled_first}
use Rattle.buffers.specs.declared.reasons.Refusal.TheVariants as why
use Rattle.journal.proofs.accepted.collect_lines.Goals as goal
use Rattle.journal.proofs.accepted.collect_lines.Goals.{After-all_seen, Else-is_torn, After-is_torn}

-- the journal is right, and these are its probes
checked : (c : After-is_torn) →
    let a = c.args in
    (right a.plan.now.cells a.plan.now.samples a.plan.now.header a.journal.now a.used ≡ true) × (c.in_ok-probes.probes ≡ held_probes a.journal.now (whole_lines a.used))
checked c = told_right _ _ _ _ _ c.check_journal.ensures.checked c.in_ok-probes.ensures.value

not_wrong : (c : After-is_torn) (s : Sweep) → Passed s c.args.plan.now (length c.args.journal.now) c.args.used → wrong s c.args.journal.now c.args.used ≡ false
not_wrong c s q = let a = c.args in wrong_of s a.plan.now a.journal.now a.used true q (checked c).0

-- it has no tail
whole : (c : Else-is_torn) → torn c.args.used ≡ false
whole c = sym c.is_torn.ensures ∙ c.if-is_torn.false

-- the tables are its lines'
tables : (c : After-is_torn) →
    let a = c.args in
    Tables a.journal.now (whole_lines a.used) c.check_journal.new.seen c.check_journal.new.masks
tables c = c.check_journal.ensures.tables (checked c).0

-- so the flags tell whether each chunk has a line
have_lines : (c : After-all_seen) (t : Bool) → c.all_seen.result ≡ t → (s : Sweep) → cells s ≡ c.args.plan.now.cells
    → has_chunks c.args.journal.now (whole_lines c.args.used) (chunks (cells s)) ≡ t
unfolding chunks
have_lines c t e s all =
    let b = c.args.journal.now in
    let l = whole_lines c.args.used in
    let n = c.args.plan.now.cells in
    let d : c.div_ceil.result ≡ chunks n = omega (arith, c.div_ceil.ensures) in
    ap (λ (m : ℕ). has_chunks b l (chunks m)) all
    ∙ ap (has_chunks b l) (sym d)
    ∙ sym (all_have_lines b _ _ l (c.check_journal.ensures.tables (told_right _ _ _ _ _ c.check_journal.ensures.checked c.in_ok-probes.ensures.value).0) c.div_ceil.result (omega (arith, d, c.requires.sizes.few)))
    ∙ sym c.all_seen.ensures
    ∙ e

pub returns-in_err-probes : goal.returns-in_err-probes
returns-in_err-probes c = let a = c.args in
    let b = a.journal.now in
    let p = err_from_is_err_and c.from_residual.result c.from_residual.ensures.1 in
    let w = told_wrong _ _ _ _ _ c.check_journal.ensures.checked c.in_err-probes.ensures.value in
    λ s q.
    let r = collect_err s b a.used a.mask.now c.in_err-probes.field-0.0 (ap number_of w.1 ∙ sym (collect_11 s b a.used a.mask.now q.plan (wrong_of s a.plan.now b a.used false q w.0))) in
    (ap replied (p.1 ∙ ap Err p.2) ∙ r.0, r.1)

pub returns-then-is_torn : goal.returns-then-is_torn
returns-then-is_torn c = let a = c.args in
    let b = a.journal.now in
    let at = goal.at.returns-then-is_torn c in
    λ s q. collect_err s b a.used a.mask.now why.JournalTorn (sym (collect_12 s b a.used a.mask.now q.plan (not_wrong at.After-is_torn s q) (sym c.is_torn.ensures ∙ c.if-is_torn.true)))

pub returns-then-not-all_seen : goal.returns-then-not-all_seen
returns-then-not-all_seen c = let a = c.args in
    let b = a.journal.now in
    let at = goal.at.returns-then-not-all_seen c in
    λ s q. collect_err s b a.used a.mask.now why.ChunkLacksLine
    (sym (collect_15 s b a.used a.mask.now q.plan (not_wrong at.After-is_torn s q) (whole at.Else-is_torn) (have_lines at.After-all_seen false c.if-not-all_seen.true s q.all)))

pub returns-then-mask-cells : goal.returns-then-mask-cells
returns-then-mask-cells c = let a = c.args in
    let b = a.journal.now in
    let at = goal.at.returns-then-mask-cells c in
    λ s q. collect_err s b a.used a.mask.now why.OutputTooShort
    (sym (collect_7 s b a.used a.mask.now q.plan (not_wrong at.After-is_torn s q) (whole at.Else-is_torn) (have_lines at.After-all_seen true c.if-not-all_seen.false s q.all) (omega (arith, c.if-mask-cells.true, q.all))))

pub returns : goal.returns
unfolding held_bit
returns c = let a = c.args in
    let b = a.journal.now in
    let at = goal.at.returns c in
    let n = a.plan.now.cells in
    let m = c.check_journal.new.masks in
    λ s q. collect_ok s b a.used a.mask.now _ _ (checked at.After-is_torn).1
    (filled_first (cell_bit m) n a.mask.now _ (omega (arith, c.if-mask-cells.false)) c.write_cells.ensures
    ∙ held_bits b _ m (whole_lines a.used) (tables at.After-is_torn) n a.mask.now c.requires.sizes.few
    ∙ ap (λ (k : ℕ). filled k (held_bit b a.used) a.mask.now) (sym q.all))
    (collect_0 s b a.used a.mask.now q.plan (not_wrong at.After-is_torn s q) (whole at.Else-is_torn) (have_lines at.After-all_seen true c.if-not-all_seen.false s q.all) (omega (arith, c.if-mask-cells.false, q.all)))
