-- `journal::line::read_line` meets its contract. Assumes nothing.
use mathlib.Core.Bool.{Bool, ◌&&◌}
use mathlib.Core.Path.{◌≡◌, refl, sym, ap, ◌∙◌}
use Prim.Native.Nat.{ℕ, ◌+◌, ◌*◌, ◌-◌}
use native.Mathlib.Omega.{arith}
use lib.Dec.{eqb}
use lib.ListN.{get_or, length, take, drop}
use Rattle.journal.specs.Hex.{are_digits, hex_value}
use Rattle.journal.specs.Lines.{header_length, line_length, line_start, chunk_at, mask_at, probes_at}
use Rattle.journal.proofs.Text.{digits_part, length_part, value_part}
use Rattle.journal.specs.Right.{framed}
use Rattle.journal.proofs.Scan.{line_unframed, line_read}
use Rattle.journal.proofs.line.read_line.Goals as goal
use Rattle.journal.proofs.line.read_line.Goals.{After-are_digits}

-- where line l begins, and the part that has its digits
abbrev at : ℕ → ℕ
at l = header_length + line_length * l

abbrev width : ℕ → ℕ
width l = at l + 32 - at l

width_is : (l : ℕ) → width l ≡ 32
width_is l = omega arith

-- it has 32 digits and 0a
framed_by : (c : After-are_digits) → (c.are_digits.result && eqb (get_or c.args.journal.now (at c.args.l + 32) 0) 10) ≡ framed c.args.journal.now c.args.l
unfolding framed line_start
framed_by c =
    let b = c.args.journal.now in
    let l = c.args.l in
    let w = width_is l in
    ap (λ (t : Bool). t && eqb (get_or b (at l + 32) 0) 10)
    (c.are_digits.ensures ∙ digits_part b (at l) (width l) (omega arith) ∙ ap (are_digits b (at l)) w)

pub returns-then-not-framed : goal.returns-then-not-framed
returns-then-not-framed c = line_unframed _ _ (sym (framed_by (goal.at.returns-then-not-framed c).After-are_digits) ∙ c.if-not-framed.true)

pub returns : goal.returns
unfolding line_start chunk_at mask_at probes_at
returns c = let b = c.args.journal.now in
    let l = c.args.l in
    let w = width_is l in
    let first : at l + 0 ≡ at l = omega arith in
    let rest : length (take (width l) (drop (at l) b)) - 24 ≡ 8 = omega (arith, length_part b (at l) (width l) (omega arith)) in
    line_read b l _ _ _ (sym (framed_by (goal.at.returns c).After-are_digits) ∙ c.if-not-framed.false)
    (c.hex_value.ensures ∙ value_part b (at l) (width l) 0 8 8 (omega arith) (omega arith) refl ∙ ap (λ (i : ℕ). hex_value b i 8) first)
    (c.hex_value-2.ensures ∙ value_part b (at l) (width l) 8 16 16 (omega arith) (omega arith) refl)
    (c.hex_value-3.ensures ∙ value_part b (at l) (width l) 24 _ 8 (omega arith) (omega arith) rest)
