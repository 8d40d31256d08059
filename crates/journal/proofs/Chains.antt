-- The refusals of the calls, condition by condition, and what a call answers and leaves by them. Assumes nothing.
use mathlib.Core.Path.{◌≡◌, refl, sym, ap, ◌∙◌}
use mathlib.Core.Bool.{Bool, true, false, not}
use mathlib.Core.List.{List, [], ◌∷◌}
use Prim.Native.Nat.{ℕ, zero, suc, ◌+◌, ◌-◌, ◌≤◌, ◌<◌}
use native.Mathlib.Omega.{arith}
use lib.Dec.{ltb, leb}
use lib.ListN.{length}
use borrow.Author.Tests.{lt-ltb, le-ltb, le-leb, lt-leb, eq-eqb, ne_eqb, leb-false, ltb-false}
use Rattle.buffers.specs.Lent.{filled, put}
use Rattle.std.specs.Prelude.{Result, Ok, Err}
use Rattle.buffers.specs.Refusal.{Conditions, first, carried, refused, replied, number_of}
use Rattle.buffers.specs.declared.reasons.Refusal.{Refusal}
use Rattle.buffers.proofs.Refusals.{first_here, first_skip, first_clear, first_clears, carried_here, carried_skip, carried_clear, carried_last, reply_some, written_none, written_some, number_positive, err_replied, ok_replied, err_unless, ok_unless}
use Rattle.roll_sweep.specs.Sweep.{Sweep, cells, chunks}
use Rattle.journal.specs.Lines.{header_length, line_length, line_of, has_chunk, has_chunks, held_probes}
use Rattle.journal.specs.Right.{whole_lines, torn, right}
use Rattle.journal.specs.Pass.{Passed}
use Rattle.journal.specs.declared.plan.PassedPlan.{PassedPlan}
use Rattle.journal.specs.Calls.{after_plan, wrong, begin_short, begin_refusal, begin_reply, begin_bytes, work_conditions, work_refusal, work_reply, work_bytes, kept, recover_refusal, recover_reply, collect_refusal, collect_reply, held_bit, collect_mask}
use Rattle.journal.specs.Range.{Ran, ran_to, ran, range_conditions, range_refusal, range_ran, range_reply, range_bytes, range_stopped, Ranged}

-- ---- the plan's refusal, before a call's own conditions

module _ (s : Sweep) (b : List ℕ) (u : ℕ) (own : Conditions) where
  -- it is the call's
  pub plan_first : (k : ℕ) → k ≡ s.refusal (ltb (length b) u) → 0 < k → k ≡ first (after_plan s b u own)
  plan_first k e h = sym (ap (λ (n : ℕ). first (carried n ∷ own)) (sym e) ∙ carried_here k own h)

  pub plan_refused : (why : Refusal) → number_of why ≡ s.refusal (ltb (length b) u) → number_of why ≡ first (after_plan s b u own)
  plan_refused why e = plan_first (number_of why) e (number_positive why)

  -- there is none: the call's own decide
  pub plan_clear : s.refusal (ltb (length b) u) ≡ 0 → first (after_plan s b u own) ≡ first own
  plan_clear e = carried_skip _ own e

-- ---- condition by condition

-- what is known where work refuses nothing
pub record WorkClear (s : Sweep) (c : ℕ) (b : List ℕ) (u : ℕ) : Type 0 where
  pub plan : s.refusal (ltb (length b) u) ≡ 0
  pub exists : c < chunks (cells s)
  pub right : wrong s b u ≡ false
  pub whole : torn u ≡ false
  pub new : has_chunk b (whole_lines u) c ≡ false
  pub room : u + line_length ≤ length b

-- by the sweep's cells, samples and header
pub wrong_of : (s : Sweep) (p : PassedPlan) (b : List ℕ) (u : ℕ) (t : Bool) → Passed s p (length b) u → right p.cells p.samples p.header b u ≡ t → wrong s b u ≡ not t
unfolding wrong
wrong_of s p b u t q e = ap not ((λ i. right (q.all i) (q.samples i) (q.header i) b u) ∙ e)

module _ (s : Sweep) (b : List ℕ) (u : ℕ) where
  -- ---- begin

  module _ (p : s.refusal (ltb (length b) u) ≡ 0) where
    pub begin_13 : (u ≡ 0 → ⊥) → begin_refusal s b u ≡ 13
    unfolding begin_refusal
    begin_13 h = simp (p, ne_eqb u 0 h)

    pub begin_7 : u ≡ 0 → length b < header_length → begin_refusal s b u ≡ 7
    unfolding begin_refusal begin_short
    begin_7 z h = simp (p, eq-eqb u 0 z, lt-ltb (length b) header_length h)

    pub begin_0 : u ≡ 0 → header_length ≤ length b → begin_refusal s b u ≡ 0
    unfolding begin_refusal begin_short
    begin_0 z h = simp (p, eq-eqb u 0 z, le-ltb (length b) header_length h)

  pub begin_err : (why : Refusal) → number_of why ≡ begin_refusal s b u → (replied (Err why) ≡ begin_reply s b u) × (b ≡ begin_bytes s b u)
  unfolding begin_reply begin_bytes
  begin_err why e = (err_replied why _ header_length e, err_unless why _ (put 0 s.header b) b e)

  pub begin_ok : (o : List ℕ) → o ≡ put 0 s.header b → begin_refusal s b u ≡ 0 → (replied (Ok header_length) ≡ begin_reply s b u) × (o ≡ begin_bytes s b u)
  unfolding begin_reply begin_bytes
  begin_ok o w e = (ok_replied _ _ _ (sym e) refl, ok_unless _ (put 0 s.header b) b o (sym e) w)

  -- ---- work

  module _ (c : ℕ) where
    module _ (p : s.refusal (ltb (length b) u) ≡ 0) where
      pub work_9 : chunks (cells s) ≤ c → work_refusal s c b u ≡ 9
      unfolding work_refusal
      work_9 h = simp (p, le-leb (chunks (cells s)) c h)

      module _ (g : c < chunks (cells s)) where
        pub work_11 : wrong s b u ≡ true → work_refusal s c b u ≡ 11
        unfolding work_refusal
        work_11 w = simp (p, lt-leb (chunks (cells s)) c g, w)

        module _ (w : wrong s b u ≡ false) where
          pub work_12 : torn u ≡ true → work_refusal s c b u ≡ 12
          unfolding work_refusal
          work_12 t = simp (p, lt-leb (chunks (cells s)) c g, w, t)

          module _ (t : torn u ≡ false) where
            pub work_10 : has_chunk b (whole_lines u) c ≡ true → work_refusal s c b u ≡ 10
            unfolding work_refusal
            work_10 a = simp (p, lt-leb (chunks (cells s)) c g, w, t, a)

            module _ (a : has_chunk b (whole_lines u) c ≡ false) where
              pub work_7 : length b < u + line_length → work_refusal s c b u ≡ 7
              unfolding work_refusal
              work_7 h = simp (p, lt-leb (chunks (cells s)) c g, w, t, a, lt-ltb (length b) (u + line_length) h)

              pub work_0 : u + line_length ≤ length b → work_refusal s c b u ≡ 0
              unfolding work_refusal
              work_0 h = simp (p, lt-leb (chunks (cells s)) c g, w, t, a, le-ltb (length b) (u + line_length) h)

    pub work_clear : work_refusal s c b u ≡ 0 → WorkClear s c b u
    unfolding work_refusal
    work_clear e =
        let p = carried_clear (s.refusal (ltb (length b) u)) (work_conditions s c b u) e in
        let q = first_clears (work_conditions s c b u) refl p.1 in
        record {
          plan = p.0;
          exists = leb-false (chunks (cells s)) c q.0;
          right = q.1.0;
          whole = q.1.1.0;
          new = q.1.1.1.0;
          room = ltb-false (length b) (u + line_length) q.1.1.1.1.0;
        }

    pub work_err : (why : Refusal) → number_of why ≡ work_refusal s c b u → (replied (Err why) ≡ work_reply s c b u) × (b ≡ work_bytes s c b u)
    unfolding work_reply work_bytes
    work_err why e = (err_replied why _ (u + line_length) e, err_unless why _ (put u (line_of s c) b) b e)

    pub work_ok : work_refusal s c b u ≡ 0 → replied (Ok (u + line_length)) ≡ work_reply s c b u
    unfolding work_reply
    work_ok e = ok_replied _ _ _ (sym e) refl

  -- ---- recover

  module _ (p : s.refusal (ltb (length b) u) ≡ 0) where
    pub recover_11 : wrong s b u ≡ true → recover_refusal s b u ≡ 11
    unfolding recover_refusal
    recover_11 w = simp (p, w)

    pub recover_0 : wrong s b u ≡ false → recover_refusal s b u ≡ 0
    unfolding recover_refusal
    recover_0 w = simp (p, w)

  pub recover_err : (e : Refusal) → number_of e ≡ recover_refusal s b u → replied (Err e) ≡ recover_reply s b u
  unfolding recover_reply
  recover_err e h = err_replied e _ _ h

  pub recover_ok : (k : ℕ) → k ≡ kept u → recover_refusal s b u ≡ 0 → replied (Ok k) ≡ recover_reply s b u
  unfolding recover_reply
  recover_ok k f e = ok_replied _ _ _ (sym e) f

  -- ---- collect

  module _ (o : List ℕ) where
    module _ (p : s.refusal (ltb (length b) u) ≡ 0) where
      pub collect_11 : wrong s b u ≡ true → collect_refusal s b u o ≡ 11
      unfolding collect_refusal
      collect_11 w = simp (p, w)

      module _ (w : wrong s b u ≡ false) where
        pub collect_12 : torn u ≡ true → collect_refusal s b u o ≡ 12
        unfolding collect_refusal
        collect_12 t = simp (p, w, t)

        module _ (t : torn u ≡ false) where
          pub collect_15 : has_chunks b (whole_lines u) (chunks (cells s)) ≡ false → collect_refusal s b u o ≡ 15
          unfolding collect_refusal
          collect_15 a = simp (p, w, t, a)

          module _ (a : has_chunks b (whole_lines u) (chunks (cells s)) ≡ true) where
            pub collect_7 : length o < cells s → collect_refusal s b u o ≡ 7
            unfolding collect_refusal
            collect_7 h = simp (p, w, t, a, lt-ltb (length o) (cells s) h)

            pub collect_0 : cells s ≤ length o → collect_refusal s b u o ≡ 0
            unfolding collect_refusal
            collect_0 h = simp (p, w, t, a, le-ltb (length o) (cells s) h)

    pub collect_err : (e : Refusal) → number_of e ≡ collect_refusal s b u o → (replied (Err e) ≡ collect_reply s b u o) × (o ≡ collect_mask s b u o)
    unfolding collect_reply collect_mask
    collect_err e h = (err_replied e _ _ h, err_unless e _ _ o h)

    pub collect_ok : (q : ℕ) (m : List ℕ) → q ≡ held_probes b (whole_lines u) → m ≡ filled (cells s) (held_bit b u) o → collect_refusal s b u o ≡ 0
        → (replied (Ok q) ≡ collect_reply s b u o) × (m ≡ collect_mask s b u o)
    unfolding collect_reply collect_mask
    collect_ok q m f g e = (ok_replied _ _ _ (sym e) f, ok_unless _ _ o m (sym e) g)

-- ---- work over a range

module _ (s : Sweep) (from to : ℕ) (b : List ℕ) (u : ℕ) where
  module _ (p : s.refusal (ltb (length b) u) ≡ 0) where
    pub range_9 : to ≤ from → range_refusal s from to b u ≡ 9
    unfolding range_refusal
    range_9 h = plan_clear s b u (range_conditions s from to b u) p ∙ first_here (leb to from) 9 (carried (work_refusal s from b u) ∷ []) (le-leb to from h)

    pub range_work : from < to → range_refusal s from to b u ≡ work_refusal s from b u
    unfolding range_refusal
    range_work h =
        plan_clear s b u (range_conditions s from to b u) p
        ∙ first_skip (leb to from) 9 (carried (work_refusal s from b u) ∷ []) (lt-leb to from h)
        ∙ carried_last (work_refusal s from b u)

  -- a range that is not refused has a chunk, and its work is not refused
  pub range_clear : range_refusal s from to b u ≡ 0 → (from < to) × (work_refusal s from b u ≡ 0)
  unfolding range_refusal
  range_clear e =
      let p = carried_clear (s.refusal (ltb (length b) u)) (range_conditions s from to b u) e in
      let q = first_clear (leb to from) 9 (carried (work_refusal s from b u) ∷ []) (omega arith) p.1 in
      (leb-false to from q.0, (carried_clear (work_refusal s from b u) [] q.1).0)

  -- what the call answers and leaves, with the lent number
  module _ (old : ℕ) where
    pub range_err : (why : Refusal) → number_of why ≡ range_refusal s from to b u → Ranged s from to b u old (Err why) b old
    unfolding range_reply range_bytes range_stopped
    range_err why e =
        let r : Ran = range_ran s from to b u in
        (err_replied why _ r.used e, err_unless why _ r.bytes b e, err_unless why _ r.next old e)

    -- the plan is refused, by its number and by its name
    pub range_first : (k : ℕ) → k ≡ s.refusal (ltb (length b) u) → 0 < k → (refused k ≡ range_reply s from to b u) × (b ≡ range_bytes s from to b u) × (old ≡ range_stopped s from to b u old)
    unfolding range_refusal range_reply range_bytes range_stopped
    range_first k e h =
        let f : k ≡ range_refusal s from to b u = plan_first s b u (range_conditions s from to b u) k e h in
        let some : 0 < range_refusal s from to b u = omega (arith, f, h) in
        (ap refused f ∙ sym (reply_some _ _ some), sym (written_some _ _ _ some), sym (written_some _ _ _ some))

    pub range_plan : (why : Refusal) → number_of why ≡ s.refusal (ltb (length b) u) → Ranged s from to b u old (Err why) b old
    range_plan why e = range_first (number_of why) e (number_positive why)

    pub range_ok : (o : List ℕ) (v c : ℕ) → ran_to o v c ≡ ran s (to - from) (ran_to b u from) → range_refusal s from to b u ≡ 0 → Ranged s from to b u old (Ok v) o c
    unfolding range_reply range_bytes range_stopped range_ran
    range_ok o v c f e = (
      ok_replied _ v _ (sym e) (ap (λ (x : Ran). x.used) f),
      ap (λ (x : Ran). x.bytes) f ∙ sym (written_none _ _ b e),
      ap (λ (x : Ran). x.next) f ∙ sym (written_none _ _ old e),
    )

-- where the plan is refused, a range is refused alike over whatever rolls
pub range_alike : (s t : Sweep) (from to : ℕ) (b : List ℕ) (u old : ℕ) (r : Result ℕ Refusal) (o : List ℕ) (c k : ℕ)
    → k ≡ s.refusal (ltb (length b) u) → k ≡ t.refusal (ltb (length b) u) → 0 < k → Ranged s from to b u old r o c → Ranged t from to b u old r o c
range_alike s t from to b u old r o c k e f h q =
    let x = range_first s from to b u old k e h in
    let y = range_first t from to b u old k f h in
    (q.0 ∙ sym x.0 ∙ y.0, q.1 ∙ sym x.1 ∙ y.1, q.2 ∙ sym x.2 ∙ y.2)

-- a range of one chunk is refused as its work
pub range_one_refusal : (s : Sweep) (c : ℕ) (b : List ℕ) (u : ℕ) → range_refusal s c (c + 1) b u ≡ work_refusal s c b u
unfolding range_refusal work_refusal
range_one_refusal s c b u = go (s.refusal (ltb (length b) u)) refl
  where
    go : (k : ℕ) → k ≡ s.refusal (ltb (length b) u) → range_refusal s c (c + 1) b u ≡ work_refusal s c b u
    go zero e = range_work s c (c + 1) b u (sym e) (omega arith)
    go (suc k) e = sym (plan_first s b u (range_conditions s c (c + 1) b u) (suc k) e (omega arith)) ∙ plan_first s b u (work_conditions s c b u) (suc k) e (omega arith)
