-- `journal::pass::is_possible` meets its contract. Assumes nothing.
use mathlib.Core.Bool.{Bool, true, false, ◌&&◌}
use mathlib.Core.Path.{◌≡◌, sym, ap, ap₂, ◌∙◌}
use Prim.Native.Nat.{◌+◌, ◌-◌, ◌*◌, ◌^◌, ◌≤◌}
use native.Mathlib.Omega.{arith}
use lib.Count.{ones}
use lib.Dec.{leb, ltb}
use borrow.Author.Tests.{lt-leb, le-leb}
use Rattle.roll_sweep.proofs.Chunks.{cells_le}
use Rattle.journal.proofs.Possible.{possible_at, marked_le, least_le, most_le}
use Rattle.journal.proofs.pass.is_possible.Goals as goal
use Rattle.journal.proofs.pass.is_possible.Goals.{After-from-marked}

-- the mask has no bit beyond the chunk's cells, so it has as many at most
no_spare : (c : After-from-marked) → ltb c.args.line.mask (2 ^ c.cells_in-all.result) ≡ true
no_spare c = sym c.no_bit_from.ensures ∙ c.if-not-no_bit_from.false

few : (c : After-from-marked) → c.cells_in-all.result ≤ 64
few c = omega (arith, c.cells_in-all.ensures, cells_le c.args.plan.now.cells c.args.line.chunk)

pub no_bit_from-requires : goal.no_bit_from-requires
no_bit_from-requires c = omega (arith, c.cells_in-all.ensures, cells_le c.args.plan.now.cells c.args.line.chunk)

pub returns-then-not-no_bit_from : goal.returns-then-not-no_bit_from
returns-then-not-no_bit_from c = let p = c.args.plan.now in
    let l = c.args.line in
    let w = c.cells_in-all.result in
    let e : ltb l.mask (2 ^ w) ≡ false = sym c.no_bit_from.ensures ∙ c.if-not-no_bit_from.true in
    sym (possible_at p.cells p.samples l.chunk l.mask l.probes w c.cells_in-all.ensures
    ∙ ap (λ (t : Bool). t && leb (w - ones l.mask + p.samples * ones l.mask) l.probes && leb l.probes (p.samples * w)) e)

pub overflow_sub-least : goal.overflow_sub-least
overflow_sub-least c = omega (arith, c.from-marked.ensures, marked_le c.args.line.mask c.cells_in-all.result (no_spare c))

pub overflow_add-least : goal.overflow_add-least
overflow_add-least c = let p = c.args.plan.now in
    let l = c.args.line in
    let w = c.cells_in-all.result in
    omega (arith, ap (λ m. w - m + p.samples * m) c.from-marked.ensures, least_le l.mask p.samples w c.requires.most (few c) (marked_le l.mask w (no_spare c)))

pub overflow_mul-result : goal.overflow_mul-result
overflow_mul-result c = omega (arith, most_le c.args.plan.now.samples c.cells_in-all.result c.requires.most (few (goal.at.overflow_mul-result c).After-from-marked))

pub returns-then-least-line : goal.returns-then-least-line
returns-then-least-line c = let p = c.args.plan.now in
    let l = c.args.line in
    let w = c.cells_in-all.result in
    let m = ap (λ m. w - m + p.samples * m) c.from-marked.ensures in
    let f : leb (w - ones l.mask + p.samples * ones l.mask) l.probes ≡ true = ap (λ x. leb x l.probes) (sym m) ∙ le-leb _ _ c.if-least-line.true in
    sym (possible_at p.cells p.samples l.chunk l.mask l.probes w c.cells_in-all.ensures
    ∙ ap₂ (λ (t u : Bool). t && u && leb l.probes (p.samples * w)) (no_spare (goal.at.returns-then-least-line c).After-from-marked) f)

pub returns-else-least-line : goal.returns-else-least-line
returns-else-least-line c = let p = c.args.plan.now in
    let l = c.args.line in
    let w = c.cells_in-all.result in
    let m = ap (λ m. w - m + p.samples * m) c.from-marked.ensures in
    let g = lt-leb _ _ c.if-least-line.false in
    let f : leb (w - ones l.mask + p.samples * ones l.mask) l.probes ≡ false = ap (λ x. leb x l.probes) (sym m) ∙ g in
    g
    ∙ sym (possible_at p.cells p.samples l.chunk l.mask l.probes w c.cells_in-all.ensures
    ∙ ap₂ (λ (t u : Bool). t && u && leb l.probes (p.samples * w)) (no_spare (goal.at.returns-else-least-line c).After-from-marked) f)
