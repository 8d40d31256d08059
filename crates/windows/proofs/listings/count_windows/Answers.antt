-- `windows::listings::count_windows` meets its contract: each return is the number of the first condition that holds. Assumes nothing.
use Rattle.std.proofs.Common.{ℕ, Option, sym, ap, ◌∙◌, le-ltb, lt-ltb}
use Rattle.std.specs.Option.{unwrap_or}
use Rattle.buffers.specs.declared.reasons.Refusal.TheVariants as why
use Rattle.buffers.proofs.Tests.{or_here, or_skip, or_none}
use Rattle.buffers.proofs.Refusals.{err_replied, ok_replied}
use Rattle.windows.specs.Steps.{listing_refusal}
use Rattle.windows.proofs.Refusals.{refuses_1, refuses_2, refuses_8, refuses_14, refuses_7, accepts, short_is}
use Rattle.windows.proofs.listings.count_windows.Goals as goal
use Rattle.windows.proofs.listings.count_windows.Goals.{then-is_uneven-via-then-is_uneven, then-is_uneven-via-else-is_uneven+then-differ, then-any_bad_mark-via-then-any_bad_mark, then-any_bad_mark-via-else-any_bad_mark+then-any_bad_severity}

pub returns-then-is_uneven : goal.returns-then-is_uneven
unfolding listing_refusal
returns-then-is_uneven c = elim c.then-is_uneven.branch [
  | then-is_uneven-via-then-is_uneven w ↦ err_replied why.LengthsDoNotFit _ _ (sym (refuses_1 _ _ _ _ _ (or_here _ _ (sym c.is_uneven.ensures ∙ w.if-is_uneven.true))))
  | then-is_uneven-via-else-is_uneven+then-differ w ↦ err_replied why.LengthsDoNotFit _ _ (sym (refuses_1 _ _ _ _ _ (or_skip _ _ (sym c.is_uneven.ensures ∙ w.if-is_uneven.false) ∙ (sym w.differ.ensures ∙ w.if-differ.true))))
]

pub returns-then-row-gt-MOST_LENT : goal.returns-then-row-gt-MOST_LENT
unfolding listing_refusal
returns-then-row-gt-MOST_LENT c = err_replied why.TooLarge _ _ (sym (refuses_2 _ _ _ _ _ (or_none _ _ (sym c.is_uneven.ensures ∙ c.if-is_uneven.false) (sym c.differ.ensures ∙ c.if-differ.false)) c.if-row-gt-MOST_LENT.true))

pub returns-then-any_beyond : goal.returns-then-any_beyond
unfolding listing_refusal
returns-then-any_beyond c = err_replied why.TimeOutOfRange _ _ (sym (refuses_8 _ _ _ _ _ (or_none _ _ (sym c.is_uneven.ensures ∙ c.if-is_uneven.false) (sym c.differ.ensures ∙ c.if-differ.false)) c.if-row-gt-MOST_LENT.false (sym c.any_beyond.ensures ∙ c.if-any_beyond.true)))

pub returns-then-any_bad_mark : goal.returns-then-any_bad_mark
unfolding listing_refusal
returns-then-any_bad_mark c = elim c.then-any_bad_mark.branch [
  | then-any_bad_mark-via-then-any_bad_mark w ↦ err_replied why.SampleInvalid _ _ (sym (refuses_14 _ _ _ _ _ (or_none _ _ (sym c.is_uneven.ensures ∙ c.if-is_uneven.false) (sym c.differ.ensures ∙ c.if-differ.false)) c.if-row-gt-MOST_LENT.false (sym c.any_beyond.ensures ∙ c.if-any_beyond.false) (or_here _ _ (sym c.any_bad_mark.ensures ∙ w.if-any_bad_mark.true))))
  | then-any_bad_mark-via-else-any_bad_mark+then-any_bad_severity w ↦ err_replied why.SampleInvalid _ _ (sym (refuses_14 _ _ _ _ _ (or_none _ _ (sym c.is_uneven.ensures ∙ c.if-is_uneven.false) (sym c.differ.ensures ∙ c.if-differ.false)) c.if-row-gt-MOST_LENT.false (sym c.any_beyond.ensures ∙ c.if-any_beyond.false) (or_skip _ _ (sym c.any_bad_mark.ensures ∙ w.if-any_bad_mark.false) ∙ (sym w.any_bad_severity.ensures ∙ w.if-any_bad_severity.true))))
]

pub returns-then-unwrap_or-count : goal.returns-then-unwrap_or-count
unfolding listing_refusal
returns-then-unwrap_or-count c = err_replied why.OutputTooShort _ _ (sym (refuses_7 _ _ _ _ _ (or_none _ _ (sym c.is_uneven.ensures ∙ c.if-is_uneven.false) (sym c.differ.ensures ∙ c.if-differ.false)) c.if-row-gt-MOST_LENT.false (sym c.any_beyond.ensures ∙ c.if-any_beyond.false) (or_none _ _ (sym c.any_bad_mark.ensures ∙ c.if-any_bad_mark.false) (sym c.any_bad_severity.ensures ∙ c.if-any_bad_severity.false)) (short_is _ _ _ _ (c.unwrap_or.ensures ∙ ap (λ (o : Option ℕ). unwrap_or o 0) (c.copied.ensures ∙ c.first.ensures.value)) c.count_runs-count.ensures.0 ∙ lt-ltb _ _ c.if-unwrap_or-count.true)))

pub returns : goal.returns
unfolding listing_refusal
returns c = ok_replied _ _ _ (sym (accepts _ _ _ _ _ (or_none _ _ (sym c.is_uneven.ensures ∙ c.if-is_uneven.false) (sym c.differ.ensures ∙ c.if-differ.false)) c.if-row-gt-MOST_LENT.false (sym c.any_beyond.ensures ∙ c.if-any_beyond.false) (or_none _ _ (sym c.any_bad_mark.ensures ∙ c.if-any_bad_mark.false) (sym c.any_bad_severity.ensures ∙ c.if-any_bad_severity.false)) (short_is _ _ _ _ (c.unwrap_or.ensures ∙ ap (λ (o : Option ℕ). unwrap_or o 0) (c.copied.ensures ∙ c.first.ensures.value)) c.count_runs-count.ensures.0 ∙ le-ltb _ _ c.if-unwrap_or-count.false))) c.count_runs-count.ensures.0
