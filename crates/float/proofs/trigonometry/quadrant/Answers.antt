-- `float::trigonometry::quadrant` meets its contract. Assumes nothing.
use Rattle.std.proofs.Common.{ℕ, ◌+◌, ◌≤◌, arith}
use lib.Ieee.{of_bits, mul, div, round, of_int}
use Rattle.float.specs.Trigonometry.{threshold, quadrant_of}
use Rattle.float.proofs.trigonometry.quadrant.Goals as goal

four : (i j k l : ℕ) → i ≤ 1 → j ≤ 1 → k ≤ 1 → l ≤ 1 → i + j + k + l ≤ 4
four i j k l p q r s = omega arith

pub returns : goal.returns
unfolding quadrant_of threshold of_bits mul div round of_int
returns c = let three = c.past-3 in
    let two = c.past-2 in
    let one = c.past in
    (simp (one.ensures.0, two.ensures.0, three.ensures.0, c.past-4.ensures.0), four _ _ _ _ one.ensures.1 two.ensures.1 three.ensures.1 c.past-4.ensures.1)
