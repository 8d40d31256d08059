-- `float::root::scale` meets its contract. Assumes nothing.
use Rattle.std.proofs.Common.{◌≡◌, ℕ, ◌+◌, ◌-◌, ◌*◌, ◌/◌, ◌%◌, ◌^◌, ◌<◌, ◌∙◌, arith}
use lib.Count.{count_leading_zeros}
use Rattle.float.proofs.Patterns.{subnormal, subnormal_magnitude, normal_magnitude}
use Rattle.float.specs.RootSteps.{magnitude}
use Rattle.float.proofs.Scaling.{pair_is}
use Rattle.float.proofs.root.scale.Goals as goal

low : (b : ℕ) → b / 2 ^ 52 ≡ 0 → b < 2 ^ 52
low b h = omega arith

pub overflow_sub-z : goal.overflow_sub-z
overflow_sub-z c = let f = subnormal c.args.b c.requires.0 (low c.args.b c.if-field-eq0.true) in
    omega arith

pub paired-requires : goal.paired-requires
paired-requires c = let f = subnormal c.args.b c.requires.0 (low c.args.b c.if-field-eq0.true) in
    (omega arith, omega arith)

pub returns-then-field-eq0 : goal.returns-then-field-eq0
returns-then-field-eq0 c = let f = subnormal c.args.b c.requires.0 (low c.args.b c.if-field-eq0.true) in
    let b = c.args.b in
    let z = count_leading_zeros 64 b - 11 in
    let m = (b * 2 ^ z) % 2 ^ 64 in
    c.paired.ensures ∙ pair_is (magnitude b * 2 ^ 1074) m (1074 - z) (omega arith) (omega arith) (subnormal_magnitude b z m c.if-field-eq0.true (omega arith) (omega arith))

pub returns-else-field-eq0 : goal.returns-else-field-eq0
returns-else-field-eq0 c = let b = c.args.b in
    c.paired-else-field-eq0.ensures ∙ pair_is (magnitude b * 2 ^ 1074) (2 ^ 52 + b % 2 ^ 52) (b / 2 ^ 52 + 1073) (omega arith) (omega arith) (normal_magnitude b c.if-field-eq0.false)
