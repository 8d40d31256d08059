-- `windows::expansion::expand_in_order` meets its contract. The invariant: i marks are written, and the rest comes from the windows from number j on. Assumes
-- nothing.
use Rattle.std.proofs.Common.{◌≡◌, ℕ, List, [], ◌∷◌, ◌++◌, length, refl, ap, ◌∙◌, arith, length-append}
use Rattle.buffers.specs.Ranges.{flag}
use Rattle.buffers.specs.Lent.{over}
use Rattle.buffers.proofs.Lent.{length_kept, over_more}
use Rattle.windows.specs.Steps.{spans_of}
use Rattle.windows.proofs.Spread.{in_order_on, in_order_end}
use Rattle.windows.proofs.Refusals.{byte_flag}
use Rattle.windows.proofs.expansion.expand_in_order.Goals as goal
use Rattle.windows.proofs.expansion.expand_in_order.Goals.{At-loop-i}

-- the mask is as long as it was
kept_length : (c : At-loop-i) → length c.loop-i.mask ≡ length c.args.mask.now
kept_length c = length_kept c.loop-i.mask c.loop-i.invariant.1 c.args.mask.now c.loop-i.invariant.3 (omega (arith, c.loop-i.invariant.2, c.requires.0))

pub loop-i-init : goal.loop-i-init
unfolding over
loop-i-init c = (omega arith, [], refl, refl, refl)

pub bounds-mask-i : goal.bounds-mask-i
bounds-mask-i c = omega (arith, kept_length (goal.at.bounds-mask-i c).At-loop-i, c.loop-i-test.true, c.requires.0)

pub loop-i-preserved : goal.loop-i-preserved
loop-i-preserved c = let h = c.loop-i-test.true in (
  c.skip_ended-j.ensures.0,
  c.loop-i.invariant.1 ++ c.from.result ∷ [],
  simp length-append (omega (arith, c.loop-i.invariant.2)),
  over_more c.loop-i.mask c.loop-i.invariant.1 c.args.mask.now c.loop-i.i c.from.result c.loop-i.invariant.3 c.loop-i.invariant.2 (omega (arith, h, c.requires.0)),
  in_order_on c.args.times.now (spans_of c.args.spans.now) c.loop-i.i c.loop-i.invariant.1 _ c.loop-i.j c.skip_ended-j.result c.from.result h c.skip_ended-j.ensures.1 (c.from.ensures ∙ byte_flag _ ∙ ap flag c.is_in.ensures) c.loop-i.invariant.4,
)

pub shape_of-mask : goal.shape_of-mask
shape_of-mask c = kept_length (goal.at.shape_of-mask c).At-loop-i

pub returns : goal.returns
returns c = c.loop-i.invariant.3 ∙ ap (λ (v : List ℕ). over v c.args.mask.now) (in_order_end c.args.times.now (spans_of c.args.spans.now) c.loop-i.i c.loop-i.invariant.1 _ c.loop-i.j c.loop-i-test.false c.loop-i.invariant.4)
