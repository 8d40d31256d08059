-- `journal::pass::check_journal` meets its contract. Assumes nothing.
use mathlib.Core.Bool.{Bool, not}
use mathlib.Core.Path.{◌≡◌, sym, ap, subst, ◌∙◌}
use Prim.Native.Nat.{ℕ}
use native.Mathlib.Omega.{arith}
use borrow.Author.Tests.{not-true, not-false}
use Rattle.journal.specs.Lines.{held_probes}
use Rattle.journal.specs.Right.{whole_lines, agree, lines_right, right}
use Rattle.journal.specs.Pass.{checked_of, Tables}
use Rattle.journal.proofs.Scan.{first_bytes, is_wrong, header_differs, header_agrees}
use Rattle.journal.proofs.pass.check_journal.Goals as goal
use Rattle.journal.proofs.pass.check_journal.Goals.{After-ne}

compared : (c : After-ne) → c.ne.result ≡ not (agree c.args.journal.now c.args.plan.now.header c.min-m.result)
compared c = c.ne.ensures
    ∙ ap not (first_bytes c.args.journal.now c.args.plan.now.header c.min-m.result (omega (arith, c.min-m.ensures, c.requires.bounded.used)) (omega (arith, c.min-m.ensures, c.requires.bounded.sizes.header)))

pub returns-then-ne : goal.returns-then-ne
returns-then-ne c = let a = c.args in
    let p = a.plan.now in
    let q = is_wrong _ _ _ (header_differs p.cells p.samples p.header a.journal.now a.used c.min-m.result c.min-m.ensures
    (not-true _ (sym (compared (goal.at.returns-then-ne c).After-ne) ∙ c.if-ne.true))) in
    record { checked = q.0; tables = q.1 }

pub check_lines-requires-clause-within : goal.check_lines-requires-clause-within
unfolding whole_lines
check_lines-requires-clause-within c = λ l h. omega (arith, c.whole_lines.ensures, c.requires.bounded.used)

pub returns : goal.returns
returns c = let a = c.args in
    let p = a.plan.now in
    let b = a.journal.now in
    let w = c.whole_lines.ensures in
    let r : right p.cells p.samples p.header b a.used ≡ lines_right p.cells p.samples b (whole_lines a.used) =
    header_agrees p.cells p.samples p.header b a.used c.min-m.result c.min-m.ensures
    (not-false _ (sym (compared (goal.at.returns c).After-ne) ∙ c.if-ne.false)) in
    record {
      checked =
          c.check_lines.ensures.checked
          ∙ ap (λ (l : ℕ). checked_of (lines_right p.cells p.samples b l) (held_probes b l)) w
          ∙ ap (λ (t : Bool). checked_of t (held_probes b (whole_lines a.used))) (sym r);
      tables = λ h.
          subst (λ (l : ℕ). Tables b l c.check_lines.new.seen c.check_lines.new.masks) w
          (c.check_lines.ensures.tables (ap (lines_right p.cells p.samples b) w ∙ sym r ∙ h));
    }
