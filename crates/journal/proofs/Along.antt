-- What work over a range asks: the chunks one by one, where it stops, and what its loop keeps. Assumes nothing.
use mathlib.Core.Path.{◌≡◌, refl, sym, ap, ◌∙◌, subst}
use mathlib.Core.Bool.{Bool, true, false, ◌||◌, not, or-false, false≢true}
use mathlib.Core.List.{List, ◌++◌}
use Prim.Native.Nat.{ℕ, zero, suc, ◌+◌, ◌-◌, ◌*◌, ◌≤◌, ◌<◌}
use native.Mathlib.Omega.{arith}
use lib.Dec.{leb, ltb}
use lib.ListN.{length, get_or, take, drop}
use lib.Seq.{take-take, take_at, length-take-le}
use borrow.Author.Tests.{ltb-true, ltb-false, leb-true, leb-false, le-ltb, ne_eqb, not-false}
use Rattle.buffers.specs.Lent.{put}
use Rattle.std.specs.Prelude.{Result}
use Rattle.buffers.specs.Refusal.{refused, replied}
use Rattle.buffers.specs.declared.reasons.Refusal.{Refusal}
use Rattle.buffers.proofs.Lent.{length_put}
use Rattle.buffers.proofs.Refusals.{reply_some, written_none, written_some}
use Rattle.buffers.proofs.Tests.{or_left, or_right}
use Rattle.roll_sweep.specs.Sweep.{Sweep, cells, chunks}
use Rattle.journal.specs.Lines.{line_length, line_of, has_chunk}
use Rattle.journal.specs.Right.{whole_lines, torn, right}
use Rattle.journal.specs.Calls.{wrong, work_refusal, work_reply, work_bytes}
use Rattle.journal.specs.Pass.{most_chunks, Tables, Passed, Ready}
use Rattle.journal.specs.declared.plan.PassedPlan.{PassedPlan}
use Rattle.journal.specs.Range.{Ran, ran_to, one_more, ran, range_refusal, range_reply, range_bytes, Ranged}
use Rattle.journal.proofs.Chains.{work_9, work_10, work_7, work_0, work_clear, work_ok, range_ok, range_one_refusal}
use Rattle.journal.proofs.Scan.{chunks_le}
use Rattle.journal.proofs.Written.{SweepFacts, length_line}
use Rattle.journal.proofs.Appended.{torn_more, length_more, has_more, right_more}

-- ---- the chunks, one by one

module _ (s : Sweep) (b : List ℕ) (u c : ℕ) where
  pub ran_next : (m : ℕ) → work_refusal s c b u ≡ 0 → ran s (suc m) (ran_to b u c) ≡ ran s m (ran_to (put u (line_of s c) b) (u + line_length) (c + 1))
  unfolding ran one_more work_bytes
  ran_next m e =
      written_none (work_refusal s c b u) (ran s m (one_more s (ran_to b u c))) (ran_to b u c) e
      ∙ ap (λ (o : List ℕ). ran s m (ran_to o (u + line_length) (c + 1))) (written_none (work_refusal s c b u) (put u (line_of s c) b) b e)

  pub ran_stop : (m : ℕ) → 0 < work_refusal s c b u → ran s m (ran_to b u c) ≡ ran_to b u c
  unfolding ran
  ran_stop zero h = refl
  ran_stop (suc m) h = written_some (work_refusal s c b u) (ran s m (one_more s (ran_to b u c))) (ran_to b u c) h

-- the bytes before a text that was put
take_before : (i : ℕ) (t b : List ℕ) → i ≤ length b → take i (put i t b) ≡ take i b
unfolding put
take_before i t b h = take_at (take i b) (t ++ drop (i + length t) b) i (length-take-le i b h)

-- what holds of a range wherever it stopped: each chunk took 33 bytes, and there was room for them
pub record Came (b : List ℕ) (u c : ℕ) (r : Ran) : Type 0 where
  pub since : c ≤ r.next
  pub used : r.used ≡ u + line_length * (r.next - c)
  pub within : r.used ≤ length b
  pub room : length r.bytes ≡ length b

-- nothing done
came_here : (b : List ℕ) (u c : ℕ) → u ≤ length b → Came b u c (ran_to b u c)
came_here b u c h = record { since = omega arith; used = omega arith; within = h; room = refl }

-- one chunk, and then more
came_next : (s : Sweep) (b : List ℕ) (u c : ℕ) (r : Ran) → u + line_length ≤ length b → Came (put u (line_of s c) b) (u + line_length) (c + 1) r → Came b u c r
came_next s b u c r h f =
    let n : length (put u (line_of s c) b) ≡ length b = length_put u (line_of s c) b (omega (arith, length_line s c)) in
    record { since = omega (arith, f.since); used = omega (arith, f.used, f.since); within = omega (arith, f.within); room = f.room ∙ n }

pub came : (s : Sweep) (m : ℕ) (b : List ℕ) (u c : ℕ) → u ≤ length b → Came b u c (ran s m (ran_to b u c))
unfolding ran
came s zero b u c h = came_here b u c h
came s (suc m) b u c h = go (work_refusal s c b u) refl (λ g. came s m (put u (line_of s c) b) (u + line_length) (c + 1) (omega (arith, g, length_put u (line_of s c) b (omega (arith, g, length_line s c)))))
  where
    go : (k : ℕ) → work_refusal s c b u ≡ k → (u + line_length ≤ length b → Came (put u (line_of s c) b) (u + line_length) (c + 1) (ran s m (ran_to (put u (line_of s c) b) (u + line_length) (c + 1)))) → Came b u c (ran s (suc m) (ran_to b u c))
    go zero e more =
        let room : u + line_length ≤ length b = (work_clear s b u c e).room in
        subst (Came b u c) (sym (ran_next s b u c m e)) (came_next s b u c _ room (more room))
    go (suc k) e more = subst (Came b u c) (sym (ran_stop s b u c (suc m) (omega arith))) (came_here b u c h)

-- and the bytes that were used before stand
pub ran_keeps : (s : Sweep) (m : ℕ) (b : List ℕ) (u c : ℕ) → u ≤ length b → take u (ran s m (ran_to b u c)).bytes ≡ take u b
unfolding ran
ran_keeps s zero b u c h = refl
ran_keeps s (suc m) b u c h = go (work_refusal s c b u) refl (λ g. ran_keeps s m (put u (line_of s c) b) (u + line_length) (c + 1) (omega (arith, g, length_put u (line_of s c) b (omega (arith, g, length_line s c)))))
  where
    go : (k : ℕ) → work_refusal s c b u ≡ k
        → (u + line_length ≤ length b → take (u + line_length) (ran s m (ran_to (put u (line_of s c) b) (u + line_length) (c + 1))).bytes ≡ take (u + line_length) (put u (line_of s c) b))
        → take u (ran s (suc m) (ran_to b u c)).bytes ≡ take u b
    go zero e more =
        let room : u + line_length ≤ length b = (work_clear s b u c e).room in
        let o : List ℕ = put u (line_of s c) b in
        let r : List ℕ = (ran s m (ran_to o (u + line_length) (c + 1))).bytes in
        ap (λ (x : Ran). take u x.bytes) (ran_next s b u c m e)
        ∙ sym (take-take u (u + line_length) r (omega arith))
        ∙ ap (take u) (more room)
        ∙ take-take u (u + line_length) o (omega arith)
        ∙ take_before u (line_of s c) b h
    go (suc k) e more = ap (λ (x : Ran). take u x.bytes) (ran_stop s b u c (suc m) (omega arith))

-- a range of one chunk comes to what its work leaves
ran_one : (s : Sweep) (b : List ℕ) (u c : ℕ) → work_refusal s c b u ≡ 0 → ran s 1 (ran_to b u c) ≡ ran_to (work_bytes s c b u) (u + line_length) (c + 1)
unfolding ran one_more
ran_one s b u c e = written_none (work_refusal s c b u) (one_more s (ran_to b u c)) (ran_to b u c) e

-- so it answers and leaves as work does
pub range_one : (s : Sweep) (c : ℕ) (b : List ℕ) (u old : ℕ) (r : Result ℕ Refusal) (o : List ℕ) (d : ℕ) → Ranged s c (c + 1) b u old r o d → (replied r ≡ work_reply s c b u) × (o ≡ work_bytes s c b u)
unfolding range_reply range_bytes work_reply work_bytes
range_one s c b u old r o d q = go (work_refusal s c b u) refl
  where
    one : c + 1 - c ≡ 1
    one = omega arith

    same : range_refusal s c (c + 1) b u ≡ work_refusal s c b u
    same = range_one_refusal s c b u

    go : (k : ℕ) → k ≡ work_refusal s c b u → (replied r ≡ work_reply s c b u) × (o ≡ work_bytes s c b u)
    go zero e =
        let x = range_ok s c (c + 1) b u old _ _ _ (sym (ap (λ (m : ℕ). ran s m (ran_to b u c)) one ∙ ran_one s b u c (sym e))) (same ∙ sym e) in
        (q.0 ∙ sym x.0 ∙ work_ok s b u c (sym e), q.1 ∙ sym x.1)
    go (suc k) e =
        let f : 0 < work_refusal s c b u = omega (arith, e) in
        let g : 0 < range_refusal s c (c + 1) b u = omega (arith, e, same) in
        (q.0 ∙ reply_some _ _ g ∙ ap refused same ∙ sym (reply_some _ _ f), q.1 ∙ written_some _ _ _ g ∙ sym (written_some _ _ _ f))

-- ---- what the loop keeps: after the chunks from `from` to c, of a journal b₀ with u₀ bytes used, b is left with u, and of m chunks `left` are to come

pub record Along (s : Sweep) (from m : ℕ) (seen : List Bool) (b₀ : List ℕ) (u₀ c left : ℕ) (b : List ℕ) (u : ℕ) : Type 0 where
  pub since : from ≤ c
  pub used : u ≡ u₀ + line_length * (c - from)
  pub within : u ≤ length b
  pub room : length b ≡ length b₀
  pub is_right : right (cells s) s.samples s.header b u ≡ true
  pub whole : torn u ≡ false
  -- the flags of the chunks to come
  pub count : length seen ≡ most_chunks
  pub flags : (d : ℕ) → c ≤ d → d < most_chunks → get_or seen d false ≡ has_chunk b (whole_lines u) d
  pub rest : ran s left (ran_to b u c) ≡ ran s m (ran_to b₀ u₀ from)

-- the journal after work's checks
pub ready : (s : Sweep) (p : PassedPlan) (b : List ℕ) (u c : ℕ) (seen : List Bool) (masks : List ℕ) → Passed s p (length b) u → work_refusal s c b u ≡ 0 → Tables b (whole_lines u) seen masks → Ready s b u seen masks
ready s p b u c seen masks r e f =
    let q = work_clear s b u c e in
    record { plan = q.plan; one = omega (arith, r.one, r.samples); most = omega (arith, r.sizes.most, r.samples); right = q.right; whole = q.whole; tables = f }

-- work refuses the next chunk: it does not exist, it has a line, or there is no room
abbrev pub is_refused : ℕ → List Bool → ℕ → ℕ → Bool
is_refused m seen free c = leb m c || (get_or seen c false || ltb free line_length)

module _ (s : Sweep) (a : SweepFacts s) (from m : ℕ) (seen : List Bool) (b₀ : List ℕ) (u₀ : ℕ) where
  pub along_start : (masks : List ℕ) → Ready s b₀ u₀ seen masks → u₀ ≤ length b₀ → Along s from m seen b₀ u₀ from m b₀ u₀
  unfolding wrong
  along_start masks r h = record {
    since = omega arith;
    used = omega arith;
    within = h;
    room = refl;
    is_right = not-false (right (cells s) s.samples s.header b₀ u₀) r.right;
    whole = r.whole;
    count = r.tables.flags.count;
    flags = λ d g l. r.tables.flags.chunk d l;
    rest = refl;
  }

  module _ (c left : ℕ) (b : List ℕ) (u : ℕ) (t : Along s from m seen b₀ u₀ c left b u) where
    plan_passes : s.refusal (ltb (length b) u) ≡ 0
    plan_passes = ap s.refusal (le-ltb (length b) u t.within) ∙ a.plan

    not_wrong : wrong s b u ≡ false
    unfolding wrong
    not_wrong = ap not t.is_right

    -- the flag of the next chunk, where it exists
    next_flag : c < chunks (cells s) → get_or seen c false ≡ has_chunk b (whole_lines u) c
    next_flag h = t.flags c (omega arith) (omega (arith, chunks_le (cells s) a.few))

    -- the next chunk is refused
    refused_by : (x y z : Bool) → leb (chunks (cells s)) c ≡ x → get_or seen c false ≡ y → ltb (length b - u) line_length ≡ z → x || (y || z) ≡ true → 0 < work_refusal s c b u
    refused_by true y z ex ey ez h = omega (arith, work_9 s b u c plan_passes (leb-true (chunks (cells s)) c ex))
    refused_by false true z ex ey ez h =
        let g = leb-false (chunks (cells s)) c ex in
        let has = sym (next_flag g) ∙ ey in
        omega (arith, work_10 s b u c plan_passes g not_wrong t.whole has)
    refused_by false false true ex ey ez h =
        let g = leb-false (chunks (cells s)) c ex in
        let new = sym (next_flag g) ∙ ey in
        omega (arith, work_7 s b u c plan_passes g not_wrong t.whole new (omega (arith, ltb-true (length b - u) line_length ez, t.within)))
    refused_by false false false ex ey ez h = absurd (false≢true h)

    pub along_stop : is_refused (chunks (cells s)) seen (length b - u) c ≡ true → ran_to b u c ≡ ran s m (ran_to b₀ u₀ from)
    along_stop h = sym (ran_stop s b u c left (refused_by _ _ _ refl refl refl h)) ∙ t.rest

    -- the next chunk is not refused
    module _ (h : is_refused (chunks (cells s)) seen (length b - u) c ≡ false) where
      pub next_exists : c < chunks (cells s)
      next_exists = leb-false (chunks (cells s)) c (or_left (leb (chunks (cells s)) c) (get_or seen c false || ltb (length b - u) line_length) h)

      pub next_room : u + line_length ≤ length b
      next_room =
          let r = or_right (leb (chunks (cells s)) c) (get_or seen c false || ltb (length b - u) line_length) h in
          omega (arith, ltb-false (length b - u) line_length (or_right (get_or seen c false) (ltb (length b - u) line_length) r), t.within)

      next_new : has_chunk b (whole_lines u) c ≡ false
      next_new =
          let r = or_right (leb (chunks (cells s)) c) (get_or seen c false || ltb (length b - u) line_length) h in
          sym (next_flag next_exists) ∙ or_left (get_or seen c false) (ltb (length b - u) line_length) r

      -- its line is appended
      pub along_next : (o : List ℕ) → 0 < left → o ≡ put u (line_of s c) b → Along s from m seen b₀ u₀ (c + 1) (left - 1) o (u + line_length)
      along_next o l e = subst (λ (x : List ℕ). Along s from m seen b₀ u₀ (c + 1) (left - 1) x (u + line_length)) (sym e) (record {
        since = omega (arith, t.since);
        used = omega (arith, t.used, t.since);
        within = omega (arith, length_more s a b u c t.whole next_exists next_room, next_room);
        room = length_more s a b u c t.whole next_exists next_room ∙ t.room;
        is_right = right_more s a b u c t.whole next_exists next_room t.is_right next_new;
        whole = torn_more u t.whole;
        count = t.count;
        flags = λ d g k.
            t.flags d (omega arith) k
            ∙ sym (or-false (has_chunk b (whole_lines u) d))
            ∙ ap (λ (x : Bool). has_chunk b (whole_lines u) d || x) (sym (ne_eqb c d (λ z. omega arith)))
            ∙ sym (has_more s a b u c t.whole next_exists next_room d);
        rest =
            let n : left ≡ suc (left - 1) = omega arith in
            sym (ran_next s b u c (left - 1) (work_0 s b u c plan_passes next_exists not_wrong t.whole next_new next_room))
            ∙ ap (λ (k : ℕ). ran s k (ran_to b u c)) (sym n)
            ∙ t.rest;
      })

    -- to the end of the range
    pub along_end : left ≡ 0 → ran_to b u c ≡ ran s m (ran_to b₀ u₀ from)
    unfolding ran
    along_end z = ap (λ (k : ℕ). ran s k (ran_to b u c)) (sym z) ∙ t.rest
