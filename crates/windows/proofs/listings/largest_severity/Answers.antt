-- `windows::listings::largest_severity` meets its contract. Assumes nothing.
use Rattle.std.proofs.Common.{◌≡◌, ◌+◌, ◌-◌, true, false, ap, ◌∙◌, arith}
use Rattle.windows.specs.Windows.{largest_from, largest}
use Rattle.windows.proofs.Severities.{largest_on}
use Rattle.windows.proofs.listings.largest_severity.Goals as goal
use Rattle.windows.proofs.listings.largest_severity.Goals.{then-most-severities, else-most-severities}

pub loop-i-init : goal.loop-i-init
unfolding largest_from
loop-i-init c =
    let n : 0 ≡ c.args.first + 1 - (c.args.first + 1) = omega arith in
    ap (largest_from c.args.severities.now c.args.first) n

pub loop-i-preserved : goal.loop-i-preserved
loop-i-preserved c =
    elim c.if-most-severities.branch [
      | then-most-severities w ↦ largest_on _ _ _ _ _ true c.loop-i.auto.i w.if-most-severities.true w.most-is c.loop-i.invariant
      | else-most-severities w ↦ largest_on _ _ _ _ _ false c.loop-i.auto.i w.if-most-severities.false w.most-is c.loop-i.invariant
    ]

pub returns : goal.returns
unfolding largest
returns c =
    let n : c.loop-i.i - (c.args.first + 1) ≡ c.args.last - c.args.first = omega (arith, c.loop-i-test.false, c.loop-i.auto.i-end) in
    c.loop-i.invariant ∙ ap (largest_from c.args.severities.now c.args.first) n
