-- `sun_units`: the table's first places are lent, and filled. Assumes nothing.
use Prim.Native.Nat.{ℕ, ◌≤◌, ◌+◌, ◌-◌, min}
use mathlib.Core.Path.{◌≡◌, ap, ◌∙◌}
use mathlib.Core.List.{List, ◌++◌}
use native.Mathlib.Omega.{arith}
use lib.ListN.{length, take, drop}
use lib.Seq.{length-take-le}
use Rattle.buffers.specs.Lent.{filled}
use Rattle.solar_roll.specs.Vectors.{Vector, count, triple}
use Rattle.solar_roll.specs.Roll.{sun_unit}
use Rattle.solar_roll.proofs.Cells.{filled_front}
use Rattle.solar_roll.proofs.units.sun_units.Goals as goal

pub returns : goal.returns
returns c = let at = c.loop-j in
    let us = c.args.units.now in
    let n = c.min-end.result in
    let l : n ≤ length us = omega arith in
    let e : at.j ≡ n = omega (arith, length-take-le n us l) in
    let places : n ≡ min (length us) (count c.args.suns.now - c.args.from) = c.min-end.ensures ∙ ap (min (length us)) c.saturating_sub.ensures in
    let unit : ℕ → Vector = λ t. sun_unit (triple c.args.suns.now (c.args.from + t)) (triple c.args.observers.now (c.args.from + t)) in
    ap (λ (x : List Vector). x ++ drop n us) (at.invariant ∙ ap (λ (i : ℕ). filled i unit (take n us)) e) ∙ filled_front unit n us l ∙ ap (λ (i : ℕ). filled i unit us) places
