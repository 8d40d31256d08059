-- `windows::Spans::skip_ended` meets its contract. Assumes nothing.
use Rattle.std.proofs.Common.{◌≡◌, ℕ, length, get_or, drop, pos, sym, ap, ◌∙◌, arith}
use Rattle.windows.specs.Expand.{spans, skip}
use Rattle.windows.proofs.Spread.{skip_on, skip_stop, skip_end}
use Rattle.windows.proofs.Spans.skip_ended.Goals as goal

pub loop-j-preserved : goal.loop-j-preserved
loop-j-preserved c = sym (skip_on c.args.self.now.first.now c.args.self.now.last.now c.requires.2 c.loop-j.j (get_or c.args.times.now c.args.i (pos 0)) c.loop-j-test.true (sym c.is_earlier.ensures ∙ c.if-not-is_earlier.false)) ∙ c.loop-j.invariant

pub returns-then-not-is_earlier : goal.returns-then-not-is_earlier
returns-then-not-is_earlier c = (omega arith, sym (skip_stop c.args.self.now.first.now c.args.self.now.last.now c.requires.2 c.loop-j.j (get_or c.args.times.now c.args.i (pos 0)) c.loop-j-test.true (sym c.is_earlier.ensures ∙ c.if-not-is_earlier.true)) ∙ c.loop-j.invariant)

pub returns : goal.returns
returns c =
    let t = get_or c.args.times.now c.args.i (pos 0) in
    let n = length c.args.self.now.last.now in
    let e : c.loop-j.j ≡ n = omega (arith, c.loop-j.auto.j-end c.requires.1) in
    (omega arith, sym (skip_end c.args.self.now.first.now c.args.self.now.last.now c.requires.2 n t (omega arith)) ∙ ap (λ (j : ℕ). skip t (drop j (spans c.args.self.now.first.now c.args.self.now.last.now))) (sym e) ∙ c.loop-j.invariant)
