-- `journal::pass::check_lines` meets its contract. Assumes nothing.
use mathlib.Core.Bool.{true, false}
use mathlib.Core.Path.{◌≡◌, sym, ap, ◌∙◌, subst}
use Prim.Native.Nat.{ℕ, ◌<◌}
use native.Mathlib.Omega.{arith}
use Rattle.journal.specs.Lines.{chunk_at, mask_at, probes_at, has_chunk, held_probes}
use Rattle.journal.specs.Right.{fits, line_fits, lines_right}
use Rattle.journal.specs.Pass.{most_chunks, Tables}
use Rattle.journal.specs.declared.line.Line.{Line}
use Rattle.journal.proofs.Scan.{chunks_le, chunk_within, none_unfit, some_read, lines_zero, lines_next, lines_unfit, lines_repeat, lines_few, probes_zero, probes_next, probes_lt, probes_fit, tables_zero, tables_next, is_wrong, is_right}
use Rattle.journal.proofs.pass.check_lines.Goals as goal
use Rattle.journal.proofs.pass.check_lines.Goals.{Else-not-line_fits}

-- the line fits, so its chunk is one of 16,384
fitting : (c : Else-not-line_fits) → line_fits c.args.plan.now.cells c.args.plan.now.samples c.args.journal.now c.loop-l.l ≡ true
fitting c = let p = c.args.plan.now in ap (fits p.cells p.samples) (sym c.in_ok-line.ensures) ∙ sym c.line_fits.ensures ∙ c.if-not-line_fits.false

within : (c : Else-not-line_fits) → c.in_ok-line.line.chunk < most_chunks
within c = let p = c.args.plan.now in chunk_within p.cells p.samples c.args.journal.now c.loop-l.l c.in_ok-line.line c.requires.sizes.few c.in_ok-line.ensures (fitting c)

-- these are its numbers
chunk_read : (c : Else-not-line_fits) → c.in_ok-line.line.chunk ≡ chunk_at c.args.journal.now c.loop-l.l
chunk_read c = ap (λ (x : Line). x.chunk) (some_read _ _ _ c.in_ok-line.ensures)

mask_read : (c : Else-not-line_fits) → c.in_ok-line.line.mask ≡ mask_at c.args.journal.now c.loop-l.l
mask_read c = ap (λ (x : Line). x.mask) (some_read _ _ _ c.in_ok-line.ensures)

probes_read : (c : Else-not-line_fits) → c.in_ok-line.line.probes ≡ probes_at c.args.journal.now c.loop-l.l
probes_read c = ap (λ (x : Line). x.probes) (some_read _ _ _ c.in_ok-line.ensures)

pub loop-l-init : goal.loop-l-init
loop-l-init c = record {
  right = lines_zero _ _ _;
  probes = sym (probes_zero c.args.journal.now);
  tables = tables_zero c.args.journal.now _ _ c.requires.blank;
}

pub returns-in_err-line : goal.returns-in_err-line
returns-in_err-line c = let a = c.args in
    let p = a.plan.now in
    let q = is_wrong _ _ _ (lines_unfit p.cells p.samples a.journal.now c.loop-l.l a.lines (omega arith) (none_unfit p.cells p.samples a.journal.now c.loop-l.l c.in_err-line.ensures)) in
    record { checked = c.from_residual.ensures ∙ q.0; tables = q.1 }

pub returns-then-not-line_fits : goal.returns-then-not-line_fits
returns-then-not-line_fits c = let a = c.args in
    let p = a.plan.now in
    let u : line_fits p.cells p.samples a.journal.now c.loop-l.l ≡ false = ap (fits p.cells p.samples) (sym c.in_ok-line.ensures) ∙ sym c.line_fits.ensures ∙ c.if-not-line_fits.true in
    let q = is_wrong _ _ _ (lines_unfit p.cells p.samples a.journal.now c.loop-l.l a.lines (omega arith) u) in
    record { checked = q.0; tables = q.1 }

pub bounds-seen-c : goal.bounds-seen-c
bounds-seen-c c = omega (arith, within (goal.at.bounds-seen-c c).Else-not-line_fits, c.loop-l.invariant.tables.flags.count)

pub returns-then-seen-c : goal.returns-then-seen-c
returns-then-seen-c c = let a = c.args in
    let p = a.plan.now in
    let b = a.journal.now in
    let l = c.loop-l in
    let at = (goal.at.returns-then-seen-c c).Else-not-line_fits in
    let r : has_chunk b l.l (chunk_at b l.l) ≡ true =
    ap (has_chunk b l.l) (sym (chunk_read at)) ∙ sym (l.invariant.tables.flags.chunk c.in_ok-line.line.chunk (within at)) ∙ c.if-seen-c.true in
    let q = is_wrong _ _ _ (lines_repeat p.cells p.samples b l.l a.lines (omega arith) (fitting at) r) in
    record { checked = q.0; tables = q.1 }

pub bounds-seen-c-in-loop-l : goal.bounds-seen-c-in-loop-l
bounds-seen-c-in-loop-l c = omega (arith, within (goal.at.bounds-seen-c-in-loop-l c).Else-not-line_fits, c.loop-l.invariant.tables.flags.count)

pub offset_bounds-masks-c : goal.offset_bounds-masks-c
offset_bounds-masks-c c = omega (arith, within (goal.at.offset_bounds-masks-c c).Else-not-line_fits)

pub bounds-masks-c : goal.bounds-masks-c
bounds-masks-c c = omega (arith, within (goal.at.bounds-masks-c c).Else-not-line_fits, c.loop-l.invariant.tables.words)

pub overflow_add-probes : goal.overflow_add-probes
overflow_add-probes c = let p = c.args.plan.now in
    let b = c.args.journal.now in
    let l = c.loop-l in
    omega (
      arith,
      l.invariant.probes,
      probes_read (goal.at.overflow_add-probes c).Else-not-line_fits,
      probes_lt b l.l,
      probes_fit b l.l,
      lines_few p.cells p.samples b l.l l.invariant.right,
      chunks_le p.cells c.requires.sizes.few,
    )

pub loop-l-preserved : goal.loop-l-preserved
loop-l-preserved c = let p = c.args.plan.now in
    let b = c.args.journal.now in
    let l = c.loop-l in
    let d = c.in_ok-line.line in
    let at = (goal.at.loop-l-preserved c).Else-not-line_fits in
    let new : has_chunk b l.l (chunk_at b l.l) ≡ false =
    ap (has_chunk b l.l) (sym (chunk_read at)) ∙ sym (l.invariant.tables.flags.chunk d.chunk (within at)) ∙ c.if-seen-c.false in
    record {
      right = lines_next p.cells p.samples b l.l l.invariant.right (fitting at) new;
      probes = omega (arith, l.invariant.probes, probes_read at, probes_next b l.l);
      tables = tables_next b l.seen l.masks l.l d.chunk d.mask (chunk_read at) (mask_read at) (within at) l.invariant.tables;
    }

pub returns : goal.returns
returns c = let a = c.args in
    let p = a.plan.now in
    let b = a.journal.now in
    let l = c.loop-l in
    let e : l.l ≡ a.lines = omega arith in
    let q = is_right _ _ _ _
    (ap (lines_right p.cells p.samples b) (sym e) ∙ l.invariant.right)
    (l.invariant.probes ∙ ap (held_probes b) e)
    (subst (λ (n : ℕ). Tables b n l.seen l.masks) e l.invariant.tables) in
    record { checked = q.0; tables = q.1 }
