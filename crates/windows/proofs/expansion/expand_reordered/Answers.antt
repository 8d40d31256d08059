-- `windows::expansion::expand_reordered` meets its contract. The invariant: i marks are written, and the rest is to come. Assumes nothing.
use Rattle.std.proofs.Common.{◌≡◌, ℕ, List, [], ◌∷◌, ◌++◌, length, refl, ap, ◌∙◌, arith, length-append}
use Rattle.buffers.specs.Ranges.{flag}
use Rattle.buffers.specs.Lent.{over}
use Rattle.buffers.proofs.Lent.{length_kept, over_more}
use Rattle.windows.specs.Steps.{spans_of}
use Rattle.windows.proofs.Spread.{reordered_on, reordered_end}
use Rattle.windows.proofs.Refusals.{byte_flag}
use Rattle.windows.proofs.expansion.expand_reordered.Goals as goal
use Rattle.windows.proofs.expansion.expand_reordered.Goals.{At-loop-i}

-- the mask is as long as it was
kept_length : (c : At-loop-i) → length c.loop-i.mask ≡ length c.args.mask.now
kept_length c = length_kept c.loop-i.mask c.loop-i.invariant.0 c.args.mask.now c.loop-i.invariant.2 (omega (arith, c.loop-i.invariant.1, c.requires.0))

pub loop-i-init : goal.loop-i-init
unfolding over
loop-i-init c = ([], refl, refl, refl)

pub bounds-mask-i : goal.bounds-mask-i
bounds-mask-i c = omega (arith, kept_length (goal.at.bounds-mask-i c).At-loop-i, c.loop-i-test.true, c.requires.0)

pub loop-i-preserved : goal.loop-i-preserved
loop-i-preserved c = let h = c.loop-i-test.true in (
  c.loop-i.invariant.0 ++ c.from.result ∷ [],
  simp length-append (omega (arith, c.loop-i.invariant.1)),
  over_more c.loop-i.mask c.loop-i.invariant.0 c.args.mask.now c.loop-i.i c.from.result c.loop-i.invariant.2 c.loop-i.invariant.1 (omega (arith, h, c.requires.0)),
  reordered_on c.args.times.now (spans_of c.args.spans.now) c.loop-i.i c.loop-i.invariant.0 _ c.from.result h (c.from.ensures ∙ byte_flag _ ∙ ap flag c.is_among.ensures) c.loop-i.invariant.3,
)

pub shape_of-mask : goal.shape_of-mask
shape_of-mask c = kept_length (goal.at.shape_of-mask c).At-loop-i

pub returns : goal.returns
returns c = c.loop-i.invariant.2 ∙ ap (λ (v : List ℕ). over v c.args.mask.now) (reordered_end c.args.times.now (spans_of c.args.spans.now) c.loop-i.i c.loop-i.invariant.0 _ c.loop-i-test.false c.loop-i.invariant.3)
