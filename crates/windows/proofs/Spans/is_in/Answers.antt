-- `windows::Spans::is_in` meets its contract. Assumes nothing.
use Rattle.std.proofs.Common.{true, false, not, get_or, pos, sym, refl, ap, ◌∙◌, arith}
use Rattle.windows.proofs.Spread.{first_none, first_at}
use Rattle.windows.proofs.Spans.is_in.Goals as goal

pub returns-then-self-j : goal.returns-then-self-j
returns-then-self-j c = first_none c.args.self.now.first.now c.args.self.now.last.now c.requires.1 c.args.j (get_or c.args.times.now c.args.i (pos 0)) c.if-self-j.true

pub is_earlier-requires : goal.is_earlier-requires
is_earlier-requires c = omega (arith, c.requires.1)

pub returns-then-not-is_earlier : goal.returns-then-not-is_earlier
returns-then-not-is_earlier c = sym (first_at c.args.self.now.first.now c.args.self.now.last.now c.requires.1 c.args.j (get_or c.args.times.now c.args.i (pos 0)) false _ c.if-self-j.false (sym c.is_earlier.ensures ∙ c.if-not-is_earlier.true) (sym c.is_earlier-then-not-is_earlier.ensures))

pub returns-else-not-is_earlier : goal.returns-else-not-is_earlier
returns-else-not-is_earlier c = ap not c.if-not-is_earlier.false ∙ sym (first_at c.args.self.now.first.now c.args.self.now.last.now c.requires.1 c.args.j (get_or c.args.times.now c.args.i (pos 0)) true _ c.if-self-j.false (sym c.is_earlier.ensures ∙ c.if-not-is_earlier.false) refl)
