-- `float::arithmetic::reduced`: what is left of the power's digits brings r to the remainder. Assumes nothing.
use Rattle.std.proofs.Common.{◌≡◌, ◌-◌, ◌*◌, ◌%◌, ◌^◌, ◌<◌}
use Rattle.float.proofs.arithmetic.reduced.Given as goal

abbrev pub invariant-loop : goal.invariant-loop
invariant-loop l = (l.r < 2 ^ 53) × ((l.r * 2 ^ (l.n - 11 * l.counter)) % l.m ≡ (l.d * 2 ^ l.n) % l.m)
