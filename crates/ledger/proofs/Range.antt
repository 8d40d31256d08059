-- Work over a range, cut at any byte of its whole write, leaves the machine that its works leave with a cut of the last: `cut_range`. This follows from
-- the definitions alone; what the ledger says of it is then demand 3's. `range_done` is of a range that is not cut. Assumes nothing.
use mathlib.Core.Path.{◌≡◌, refl, sym, ap, ap₂, ◌∙◌, subst}
use mathlib.Core.Bool.{Bool, cond}
use mathlib.Core.List.{List, [], ◌∷◌, ◌++◌, append_assoc, append-nil}
use Prim.Native.Nat.{ℕ, zero, suc, ◌+◌, ◌-◌, ◌*◌, ◌/◌, ◌%◌, ◌≤◌, ◌<◌}
use native.Mathlib.Omega.{arith}
use lib.ListN.{length, take, drop, length-append, length-take}
use lib.Seq.{take_at, take-take, take-append-add, drop-append-add, length-take-le}
use borrow.Author.Tests.{le-leb}
use Rattle.buffers.specs.Lent.{put}
use Rattle.buffers.specs.Refusal.{accepted, reply, unless_refused}
use Rattle.buffers.proofs.Lent.{length_put}
use Rattle.buffers.proofs.Refusals.{reply_none, written_none}
use Rattle.roll_sweep.specs.Sweep.{Sweep}
use Rattle.journal.specs.Lines.{line_length, line_of}
use Rattle.journal.specs.Calls.{work_refusal}
use Rattle.journal.specs.Range.{Ran, ran_to, ran, range_refusal, range_ran, range_reply, range_stopped}
use Rattle.journal.proofs.Chains.{work_clear, range_clear}
use Rattle.journal.proofs.Written.{length_line}
use Rattle.journal.proofs.Along.{ran_next, ran_stop, ran_keeps, came}
use Rattle.ledger.specs.Machine.{Entry, work, cut, Machine, used_after, journal_after, step, machine_run}
use Rattle.ledger.specs.Range.{range_journal, range_step, works_then, works_of, works_cut, range_entries}
use Rattle.ledger.proofs.Simulation.{moved, cut_whole, cut_part, after_put}

-- the machine with J and what was added
abbrev machine_with : List ℕ → ℕ → Machine
machine_with j n = record { journal = j; added = n }

-- one list of entries after another
pub run_append : (s : Sweep) (es fs : List Entry) (m : Machine) → machine_run s (es ++ fs) m ≡ machine_run s fs (machine_run s es m)
unfolding machine_run
run_append s [] fs m = refl
run_append s (e ∷ es) fs m = run_append s es fs (step s e m)

module _ (s : Sweep) where
  -- ---- one work: accepted, its line is added; refused, nothing is

  module _ (c : ℕ) (j x : List ℕ) (a : ℕ) where
    worked_on : work_refusal s c (j ++ x) (length j) ≡ 0 → step s (work c x) (machine_with j a) ≡ machine_with (j ++ line_of s c) line_length
    unfolding journal_after
    worked_on e =
        moved s (work c x) (machine_with j a) (j ++ line_of s c) line_length
        (ap (λ (n : ℕ). take (used_after (reply n (length j + line_length)) (length j)) (unless_refused n (put (length j) (line_of s c) (j ++ x)) (j ++ x))) e ∙ after_put j x (line_of s c) line_length (length_line s c))
        (omega (arith, length-append j (line_of s c), length_line s c))

    refused_on : (k : ℕ) → work_refusal s c (j ++ x) (length j) ≡ suc k → step s (work c x) (machine_with j a) ≡ machine_with j 0
    unfolding journal_after
    refused_on k e =
        moved s (work c x) (machine_with j a) j 0
        (ap (λ (n : ℕ). take (used_after (reply n (length j + line_length)) (length j)) (unless_refused n (put (length j) (line_of s c) (j ++ x)) (j ++ x))) e ∙ take_at j x (length j) refl)
        (omega arith)

  -- ---- a cut

  cut_line : (c : ℕ) (j : List ℕ) (r : ℕ) → r ≤ line_length → step s (cut r) (machine_with (j ++ line_of s c) line_length) ≡ machine_with (j ++ take r (line_of s c)) 0
  unfolding journal_after
  cut_line c j r h =
      moved s (cut r) (machine_with (j ++ line_of s c) line_length) (j ++ take r (line_of s c)) 0 (cut_part j (line_of s c) line_length r (length_line s c) h)
      (omega (arith, length-append j (line_of s c), length-append j (take r (line_of s c)), length-take r (line_of s c), length_line s c))

  cut_none : (j : List ℕ) → step s (cut 0) (machine_with j 0) ≡ machine_with j 0
  unfolding journal_after
  cut_none j = moved s (cut 0) (machine_with j 0) j 0 (cut_whole j 0 0 (omega arith)) (omega arith)

  -- a work of which nothing is left, accepted or not
  work_cut_0 : (c : ℕ) (j x : List ℕ) (a : ℕ) → step s (cut 0) (step s (work c x) (machine_with j a)) ≡ machine_with j 0
  work_cut_0 c j x a = go (work_refusal s c (j ++ x) (length j)) refl
    where
      go : (k : ℕ) → work_refusal s c (j ++ x) (length j) ≡ k → step s (cut 0) (step s (work c x) (machine_with j a)) ≡ machine_with j 0
      go zero e = ap (step s (cut 0)) (worked_on c j x a e) ∙ cut_line c j 0 (omega arith) ∙ ap (λ (t : List ℕ). machine_with t 0) (append-nil j)
      go (suc k) e = ap (step s (cut 0)) (refused_on c j x a k e) ∙ cut_none j

  -- ---- the works of a range, and the bytes that it writes

  -- what is left of the buffer after a work
  rest_of : (c : ℕ) (j x : List ℕ) → put (length j) (line_of s c) (j ++ x) ≡ j ++ line_of s c ++ drop line_length x
  unfolding put
  rest_of c j x =
      ap₂ (λ (p q : List ℕ). p ++ (line_of s c ++ q)) (take_at j x (length j) refl) (drop-append-add j x (length (line_of s c)) ∙ ap (λ (n : ℕ). drop n x) (length_line s c))
      ∙ sym (append_assoc j (line_of s c) (drop line_length x))

  -- what a range of m chunks comes to after J
  abbrev past : ℕ → ℕ → List ℕ → List ℕ → Ran
  past m c j x = ran s m (ran_to (j ++ x) (length j) c)

  -- its first chunk
  past_next : (m c : ℕ) (j x : List ℕ) → work_refusal s c (j ++ x) (length j) ≡ 0 → past (suc m) c j x ≡ past m (c + 1) (j ++ line_of s c) (drop line_length x)
  past_next m c j x e =
      let n : length j + line_length ≡ length (j ++ line_of s c) = omega (arith, length-append j (line_of s c), length_line s c) in
      ran_next s (j ++ x) (length j) c m e ∙ ap₂ (λ (b : List ℕ) (u : ℕ). ran s m (ran_to b u (c + 1))) (rest_of c j x) n

  -- J is its beginning
  past_keeps : (m c : ℕ) (j x : List ℕ) → take (length j) (past m c j x).bytes ≡ j
  past_keeps m c j x = ran_keeps s m (j ++ x) (length j) c (omega (arith, length-append j x)) ∙ take_at j x (length j) refl

  -- nothing of the first line is left
  none_left : (m c : ℕ) (j x : List ℕ) (a : ℕ) → machine_run s (works_cut 0 0 c x) (machine_with j a) ≡ machine_with (take (length j + 0) (past m c j x).bytes) 0
  unfolding machine_run works_then
  none_left m c j x a =
      let n : length j ≡ length j + 0 = omega arith in
      work_cut_0 c j x a ∙ ap (λ (t : List ℕ). machine_with t 0) (sym (past_keeps m c j x) ∙ ap (λ (u : ℕ). take u (past m c j x).bytes) n)

  -- a part of the first line is
  part_left : (m c : ℕ) (j x : List ℕ) (a r : ℕ) → r ≤ line_length → work_refusal s c (j ++ x) (length j) ≡ 0
      → machine_run s (works_cut 0 r c x) (machine_with j a) ≡ machine_with (take (length j + r) (past (suc m) c j x).bytes) 0
  unfolding machine_run works_then
  part_left m c j x a r h e =
      let t : List ℕ = line_of s c in
      let b : List ℕ = (past m (c + 1) (j ++ t) (drop line_length x)).bytes in
      let n : length j + r ≤ length (j ++ t) = omega (arith, length-append j t, length_line s c) in
      let left : take (length j + r) b ≡ j ++ take r t =
      sym (take-take (length j + r) (length (j ++ t)) b n) ∙ ap (take (length j + r)) (past_keeps m (c + 1) (j ++ t) (drop line_length x)) ∙ take-append-add j t r in
      ap (step s (cut r)) (worked_on c j x a e)
      ∙ cut_line c j r h
      ∙ ap (λ (l : List ℕ). machine_with l 0) (sym left ∙ ap (λ (y : Ran). take (length j + r) y.bytes) (sym (past_next m c j x e)))

  -- a range that did a chunk did its first
  with_first : (P : ℕ → Type 0) (m c : ℕ) (j x : List ℕ) → 0 < (past m c j x).next - c → ((n : ℕ) → work_refusal s c (j ++ x) (length j) ≡ 0 → P (suc n)) → P m
  unfolding ran
  with_first P zero c j x h f = absurd (omega arith)
  with_first P (suc m) c j x h f = go (work_refusal s c (j ++ x) (length j)) refl
    where
      go : (k : ℕ) → work_refusal s c (j ++ x) (length j) ≡ k → P (suc m)
      go zero e = f m e
      go (suc k) e = absurd (omega (arith, ap (λ (y : Ran). y.next) (ran_stop s (j ++ x) (length j) c (suc m) (omega arith))))

  -- q whole lines, and a part of the next
  works_left : (q m c : ℕ) (j x : List ℕ) (a r : ℕ) → r < line_length → line_length * q + r ≤ line_length * ((past m c j x).next - c)
      → machine_run s (works_cut q r c x) (machine_with j a) ≡ machine_with (take (length j + (line_length * q + r)) (past m c j x).bytes) 0
  unfolding machine_run works_then
  works_left zero m c j x a zero h l = none_left m c j x a
  works_left zero m c j x a (suc r) h l =
      let n : length j + suc r ≡ length j + (line_length * 0 + suc r) = omega arith in
      with_first (λ m. machine_run s (works_cut 0 (suc r) c x) (machine_with j a) ≡ machine_with (take (length j + (line_length * 0 + suc r)) (past m c j x).bytes) 0) m c j x (omega arith)
      (λ m e. part_left m c j x a (suc r) (omega arith) e ∙ ap (λ (u : ℕ). machine_with (take u (past (suc m) c j x).bytes) 0) n)
  works_left (suc q) m c j x a r h l =
      with_first (λ m. line_length * suc q + r ≤ line_length * ((past m c j x).next - c) → machine_run s (works_cut (suc q) r c x) (machine_with j a) ≡ machine_with (take (length j + (line_length * suc q + r)) (past m c j x).bytes) 0) m c j x (omega arith)
      (λ m e g.
      let t : List ℕ = line_of s c in
      let p : past (suc m) c j x ≡ past m (c + 1) (j ++ t) (drop line_length x) = past_next m c j x e in
      let n : length (j ++ t) + (line_length * q + r) ≡ length j + (line_length * suc q + r) = omega (arith, length-append j t, length_line s c) in
      ap (machine_run s (works_cut q r (c + 1) (drop line_length x))) (worked_on c j x a e)
      ∙ works_left q m (c + 1) (j ++ t) (drop line_length x) line_length r h (omega (arith, ap (λ (y : Ran). y.next) p))
      ∙ ap₂ (λ (u : ℕ) (y : Ran). machine_with (take u y.bytes) 0) n (sym p))
      l

  -- ---- uncut: the works of a range, where it stopped, and what it answers

  -- a range that did nothing
  none_done : (c : ℕ) (j x : List ℕ) (a : ℕ) (r : Ran) → r ≡ ran_to (j ++ x) (length j) c
      → (machine_run s (works_of (r.next - c) c x) (machine_with j a)).journal ≡ take r.used r.bytes
  unfolding machine_run works_then
  none_done c j x a r e =
      let z : c - c ≡ 0 = omega arith in
      ap (λ (y : Ran). (machine_run s (works_of (y.next - c) c x) (machine_with j a)).journal) e
      ∙ ap (λ (q : ℕ). (machine_run s (works_of q c x) (machine_with j a)).journal) z
      ∙ sym (take_at j x (length j) refl)
      ∙ sym (ap (λ (y : Ran). take y.used y.bytes) e)

  -- its works leave what it left
  works_done : (m c : ℕ) (j x : List ℕ) (a : ℕ)
      → (machine_run s (works_of ((past m c j x).next - c) c x) (machine_with j a)).journal ≡ take (past m c j x).used (past m c j x).bytes
  unfolding ran machine_run works_then
  works_done zero c j x a = none_done c j x a (past 0 c j x) refl
  works_done (suc m) c j x a = go (work_refusal s c (j ++ x) (length j)) refl (works_done m (c + 1) (j ++ line_of s c) (drop line_length x) line_length)
    where
      go : (k : ℕ) → work_refusal s c (j ++ x) (length j) ≡ k
          → (machine_run s (works_of ((past m (c + 1) (j ++ line_of s c) (drop line_length x)).next - (c + 1)) (c + 1) (drop line_length x)) (machine_with (j ++ line_of s c) line_length)).journal
          ≡ take (past m (c + 1) (j ++ line_of s c) (drop line_length x)).used (past m (c + 1) (j ++ line_of s c) (drop line_length x)).bytes
          → (machine_run s (works_of ((past (suc m) c j x).next - c) c x) (machine_with j a)).journal ≡ take (past (suc m) c j x).used (past (suc m) c j x).bytes
      go (suc k) e more = none_done c j x a (past (suc m) c j x) (ran_stop s (j ++ x) (length j) c (suc m) (omega arith))
      go zero e more =
          let t : List ℕ = line_of s c in
          let r : Ran = past m (c + 1) (j ++ t) (drop line_length x) in
          let p : past (suc m) c j x ≡ r = past_next m c j x e in
          let f = came s m (j ++ t ++ drop line_length x) (length (j ++ t)) (c + 1) (omega (arith, length-append (j ++ t) (drop line_length x))) in
          let n : r.next - c ≡ suc (r.next - (c + 1)) = omega (arith, f.since) in
          ap (λ (y : Ran). (machine_run s (works_of (y.next - c) c x) (machine_with j a)).journal) p
          ∙ ap (λ (q : ℕ). (machine_run s (works_of q c x) (machine_with j a)).journal) n
          ∙ ap (λ (y : Machine). (machine_run s (works_of (r.next - (c + 1)) (c + 1) (drop line_length x)) y).journal) (worked_on c j x a e)
          ∙ more
          ∙ sym (ap (λ (y : Ran). take y.used y.bytes) p)

  -- one at least, where its first chunk is not refused
  first_done : (m c : ℕ) (j x : List ℕ) → 0 < m → work_refusal s c (j ++ x) (length j) ≡ 0 → c < (past m c j x).next
  first_done zero c j x h e = absurd (omega arith)
  first_done (suc m) c j x h e =
      let b : List ℕ = put (length j) (line_of s c) (j ++ x) in
      let w = work_clear s (j ++ x) (length j) c e in
      let f = came s m b (length j + line_length) (c + 1) (omega (arith, w.room, length_put (length j) (line_of s c) (j ++ x) (omega (arith, w.room, length_line s c)))) in
      omega (arith, f.since, ap (λ (y : Ran). y.next) (ran_next s (j ++ x) (length j) c m e))

  -- where it stopped: at its end, or at a chunk that work refuses
  record Stops (m c : ℕ) (r : Ran) : Type 0 where
    most : r.next ≤ c + m
    refused : r.next < c + m → 0 < work_refusal s r.next r.bytes r.used

  stops : (m : ℕ) (b : List ℕ) (u c : ℕ) → Stops m c (ran s m (ran_to b u c))
  unfolding ran
  stops zero b u c = record { most = omega arith; refused = λ h. absurd (omega arith) }
  stops (suc m) b u c = go (work_refusal s c b u) refl (stops m (put u (line_of s c) b) (u + line_length) (c + 1))
    where
      go : (k : ℕ) → work_refusal s c b u ≡ k → Stops m (c + 1) (ran s m (ran_to (put u (line_of s c) b) (u + line_length) (c + 1))) → Stops (suc m) c (ran s (suc m) (ran_to b u c))
      go zero e f = subst (Stops (suc m) c) (sym (ran_next s b u c m e)) (record { most = omega (arith, f.most); refused = λ h. f.refused (omega arith) })
      go (suc k) e f = subst (Stops (suc m) c) (sym (ran_stop s b u c (suc m) (omega arith))) (record { most = omega arith; refused = λ h. omega arith })

  -- an accepted range, by how far it came
  pub record Done (from to : ℕ) (j x : List ℕ) (m : Machine) (old : ℕ) (r : Ran) : Type 0 where
    pub some : from < r.next
    pub most : r.next ≤ to
    pub stopped : range_stopped s from to (j ++ x) (length j) old ≡ r.next
    pub answered : range_reply s from to (j ++ x) (length j) ≡ accepted (length j + line_length * (r.next - from))
    pub within : r.used ≤ length r.bytes
    pub room : length r.bytes ≡ length (j ++ x)
    pub journal : range_journal s from to x m ≡ take r.used r.bytes
    pub works : (machine_run s (works_of (r.next - from) from x) m).journal ≡ take r.used r.bytes
    pub refused : r.next < to → 0 < work_refusal s r.next r.bytes r.used

  -- ---- the whole write cut at byte k

  module _ (from to : ℕ) (x : List ℕ) (m : Machine) where
    -- refused, a range changes nothing
    range_still : (k : ℕ) → range_refusal s from to (m.journal ++ x) (length m.journal) ≡ suc k → range_journal s from to x m ≡ m.journal
    unfolding range_journal
    range_still k e =
        let j : List ℕ = m.journal in
        let r : Ran = range_ran s from to (j ++ x) (length j) in
        ap (λ (n : ℕ). take (used_after (reply n r.used) (length j)) (unless_refused n r.bytes (j ++ x))) e ∙ take_at j x (length j) refl

    range_writes : range_refusal s from to (m.journal ++ x) (length m.journal) ≡ 0
        → range_journal s from to x m ≡ take (past (to - from) from m.journal x).used (past (to - from) from m.journal x).bytes
    unfolding range_journal
    range_writes e =
        let j : List ℕ = m.journal in
        let r : Ran = range_ran s from to (j ++ x) (length j) in
        ap (λ (n : ℕ). take (used_after (reply n r.used) (length j)) (unless_refused n r.bytes (j ++ x))) e

    pub range_done : range_refusal s from to (m.journal ++ x) (length m.journal) ≡ 0 → (old : ℕ) → Done from to m.journal x m old (past (to - from) from m.journal x)
    unfolding range_stopped range_reply range_ran
    range_done e old =
        let j : List ℕ = m.journal in
        let r : Ran = past (to - from) from j x in
        let g = range_clear s from to (j ++ x) (length j) e in
        let f = came s (to - from) (j ++ x) (length j) from (omega (arith, length-append j x)) in
        let q = stops (to - from) (j ++ x) (length j) from in
        record {
          some = first_done (to - from) from j x (omega (arith, g.0)) g.1;
          most = omega (arith, q.most, g.0);
          stopped = written_none _ r.next old e;
          answered = reply_none _ r.used e ∙ ap accepted f.used;
          within = omega (arith, f.within, f.room);
          room = f.room;
          journal = range_writes e;
          works = works_done (to - from) from j x m.added;
          refused = λ h. q.refused (omega (arith, g.0));
        }

    -- of the bytes w after J, a cut leaves k
    cut_at : (w : List ℕ) (v k : ℕ) → range_journal s from to x m ≡ take v w → v ≤ length w → length m.journal + k ≤ v
        → step s (cut k) (range_step s from to x m) ≡ machine_with (take (length m.journal + k) w) 0
    unfolding journal_after range_step
    cut_at w v k e l h =
        let u : ℕ = length m.journal in
        let j : List ℕ = range_journal s from to x m in
        let n : length j ≡ v = ap length e ∙ length-take-le v w l in
        let i : length j - (length j - u) + k ≡ u + k = omega arith in
        moved s (cut k) (range_step s from to x m) (take (u + k) w) 0
        (ap (λ (t : Bool). cond t (take (length j - (length j - u) + k) j) j) (le-leb k (length j - u) (omega arith))
        ∙ ap₂ take i e
        ∙ take-take (u + k) v w h)
        (omega (arith, length-take-le (u + k) w (omega arith)))

    pub cut_range : (k : ℕ) → k ≤ (range_step s from to x m).added → step s (cut k) (range_step s from to x m) ≡ machine_run s (range_entries k from x) m
    unfolding range_step
    cut_range k h = go (range_refusal s from to (m.journal ++ x) (length m.journal)) refl
      where
        go : (i : ℕ) → range_refusal s from to (m.journal ++ x) (length m.journal) ≡ i → step s (cut k) (range_step s from to x m) ≡ machine_run s (range_entries k from x) m
        go zero e =
            let j : List ℕ = m.journal in
            let r : Ran = past (to - from) from j x in
            let f = came s (to - from) (j ++ x) (length j) from (omega (arith, length-append j x)) in
            let w = range_writes e in
            let l : r.used ≤ length r.bytes = omega (arith, f.within, f.room) in
            let n : length (range_journal s from to x m) ≡ r.used = ap length w ∙ length-take-le r.used r.bytes l in
            let i : length j + (line_length * (k / line_length) + k % line_length) ≡ length j + k = omega arith in
            cut_at r.bytes r.used k w l (omega (arith, f.used))
            ∙ sym (works_left (k / line_length) (to - from) from j x m.added (k % line_length) (omega arith) (omega (arith, f.used)) ∙ ap (λ (u : ℕ). machine_with (take u r.bytes) 0) i)
        go (suc i) e =
            let j : List ℕ = m.journal in
            let w = range_still i e in
            let z : k ≡ 0 = omega (arith, ap length w) in
            let n : length j + 0 ≡ length j + k = omega arith in
            cut_at (j ++ x) (length j) k (w ∙ sym (take_at j x (length j) refl)) (omega (arith, length-append j x)) (omega arith)
            ∙ sym (ap (λ (k : ℕ). machine_run s (range_entries k from x) m) z ∙ none_left 0 from j x m.added ∙ ap (λ (u : ℕ). machine_with (take u (j ++ x)) 0) n)
