-- `windows::Spans::is_among` meets its contract. Assumes nothing.
use Rattle.std.proofs.Common.{true, false, get_or, pos, sym, ◌∙◌, arith}
use Rattle.windows.proofs.Spread.{some_none, some_at, some_before}
use Rattle.windows.proofs.Spans.is_among.Goals as goal

pub is_earlier-requires : goal.is_earlier-requires
is_earlier-requires c = omega (arith, c.requires.1)

pub returns-then-is_earlier : goal.returns-then-is_earlier
returns-then-is_earlier c = sym (some_before c.args.self.now.first.now c.args.self.now.last.now c.requires.1 c.loop-j.j (get_or c.args.times.now c.args.i (pos 0)) c.loop-j-test.true (sym c.is_earlier.ensures ∙ c.if-is_earlier.true)) ∙ c.loop-j.invariant

pub returns-then-not-is_earlier : goal.returns-then-not-is_earlier
returns-then-not-is_earlier c = sym (some_at c.args.self.now.first.now c.args.self.now.last.now c.requires.1 c.loop-j.j (get_or c.args.times.now c.args.i (pos 0)) false false c.loop-j-test.true (sym c.is_earlier.ensures ∙ c.if-is_earlier.false) (sym c.is_earlier-in-loop-j.ensures ∙ c.if-not-is_earlier.true)) ∙ c.loop-j.invariant

pub loop-j-preserved : goal.loop-j-preserved
loop-j-preserved c = sym (some_at c.args.self.now.first.now c.args.self.now.last.now c.requires.1 c.loop-j.j (get_or c.args.times.now c.args.i (pos 0)) false true c.loop-j-test.true (sym c.is_earlier.ensures ∙ c.if-is_earlier.false) (sym c.is_earlier-in-loop-j.ensures ∙ c.if-not-is_earlier.false)) ∙ c.loop-j.invariant

pub returns : goal.returns
returns c = some_none c.args.self.now.first.now c.args.self.now.last.now c.requires.1 c.loop-j.j (get_or c.args.times.now c.args.i (pos 0)) c.loop-j-test.false ∙ c.loop-j.invariant
