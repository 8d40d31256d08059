-- Work over a range of chunks, with one check at the start: what works of from, from + 1, .. answer and leave, each on what the one before left. Said
-- by work's own definitions. Definitions only. Assumes nothing.
use Rattle.std.specs.Prelude.{◌≡◌, List, [], ◌∷◌, ℕ, zero, suc, ◌+◌, ◌-◌, leb, Result}
use Rattle.buffers.specs.Refusal.{Conditions, first, carried, Reply, reply, unless_refused, replied}
use Rattle.buffers.specs.declared.reasons.Refusal.{Refusal}
use Rattle.roll_sweep.specs.Sweep.{Sweep}
use Rattle.journal.specs.Lines.{line_length}
use Rattle.journal.specs.Calls.{after_plan, work_refusal, work_bytes}

-- how far a range has come: the buffer, its used length, and the chunk that is next
pub record Ran : Type 0 where
  pub bytes : List ℕ
  pub used : ℕ
  pub next : ℕ

abbrev pub ran_to : List ℕ → ℕ → ℕ → Ran
ran_to b u c = record { bytes = b; used = u; next = c }

-- after work of the chunk that is next
unfoldable pub one_more : Sweep → Ran → Ran
unfolding work_bytes
one_more s r = ran_to (work_bytes s r.next r.bytes r.used) (r.used + line_length) (r.next + 1)

-- m chunks more, up to but not including the first that work refuses on what the one before left
unfoldable pub ran : Sweep → ℕ → Ran → Ran
unfolding work_refusal unless_refused one_more
ran s zero r = r
ran s (suc m) r = unless_refused (work_refusal s r.next r.bytes r.used) (ran s m (one_more s r)) r

-- ---- work_range from to: plan, 9 if from is not below to, then what work of from refuses

abbrev pub range_conditions : Sweep → ℕ → ℕ → List ℕ → ℕ → Conditions
range_conditions s from to b u =
    (leb to from, 9)
    ∷ carried (work_refusal s from b u)
    ∷ []

unfoldable pub range_refusal : Sweep → ℕ → ℕ → List ℕ → ℕ → ℕ
unfolding first carried work_refusal
range_refusal s from to b u = first (after_plan s b u (range_conditions s from to b u))

-- how far it comes
unfoldable pub range_ran : Sweep → ℕ → ℕ → List ℕ → ℕ → Ran
unfolding ran
range_ran s from to b u = ran s (to - from) (ran_to b u from)

-- the used length that it leaves
unfoldable pub range_reply : Sweep → ℕ → ℕ → List ℕ → ℕ → Reply ℕ
unfolding range_refusal reply range_ran
range_reply s from to b u = reply (range_refusal s from to b u) (range_ran s from to b u).used

unfoldable pub range_bytes : Sweep → ℕ → ℕ → List ℕ → ℕ → List ℕ
unfolding range_refusal unless_refused range_ran
range_bytes s from to b u = unless_refused (range_refusal s from to b u) (range_ran s from to b u).bytes b

-- the lent number: the chunk at which it stopped
unfoldable pub range_stopped : Sweep → ℕ → ℕ → List ℕ → ℕ → ℕ → ℕ
unfolding range_refusal unless_refused range_ran
range_stopped s from to b u old = unless_refused (range_refusal s from to b u) (range_ran s from to b u).next old

-- ---- for the contracts of private functions

-- the answer r, the bytes o and the lent number c are the range's
abbrev pub Ranged : Sweep → ℕ → ℕ → List ℕ → ℕ → ℕ → Result ℕ Refusal → List ℕ → ℕ → Type 0
Ranged s from to b u old r o c = (replied r ≡ range_reply s from to b u) × (o ≡ range_bytes s from to b u) × (c ≡ range_stopped s from to b u old)
