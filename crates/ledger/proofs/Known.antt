-- What the calls find out about a journal that the ledger knows: each of their tests and readings, in the ledger's words. Assumes nothing.
use mathlib.Core.Path.{◌≡◌, refl, sym, ap, ap₂, ◌∙◌}
use mathlib.Core.Bool.{Bool, true, false, cond, not, false≢true}
use mathlib.Core.List.{List, [], ◌∷◌, ◌++◌, append_assoc}
use Prim.Native.Nat.{ℕ, ◌+◌, ◌*◌, ◌/◌, ◌%◌, ◌<◌}
use native.Mathlib.Omega.{arith}
use lib.ListN.{length, take, length-append}
use lib.Dec.{leb, eqb, eqb-suc-zero}
use borrow.Author.Tests.{lt-ltb, le-ltb, eq-eqb}
use Rattle.buffers.specs.Ranges.{flag, tab}
use Rattle.buffers.specs.Refusal.{Conditions, first, carried}
use Rattle.buffers.proofs.Ranges.{tab_ext, all_ext}
use Rattle.roll_sweep.specs.Sweep.{Sweep, cells, marked, sweep_mask, sweep_probes, chunks, chunk_probes}
use Rattle.roll_sweep.proofs.Chunks.{cell_bit_lem, probes_chunks}
use Rattle.journal.specs.Lines.{line_length, header_length, has_chunk, has_chunks, held_mask, held_probes, bit_of}
use Rattle.journal.specs.Right.{whole_lines, torn, right}
use Rattle.journal.specs.Calls.{after_plan, wrong, begin_short, work_short, collect_short, begin_conditions, begin_refusal, work_conditions, work_refusal, kept, recover_conditions, recover_refusal, collect_conditions, collect_refusal, held_bit}
use Rattle.journal.specs.Range.{range_conditions, range_refusal}
use Rattle.ledger.specs.Ledger.{begins, works, collects, Write, Ledger, ended, ledger_journal, is_empty, is_in, are_in, unfinished, ledger_refusal}
use Rattle.ledger.specs.Range.{ledger_range_refusal}
use Rattle.journal.proofs.Chains.{plan_clear}
use Rattle.journal.proofs.Written.{SweepFacts}
use Rattle.ledger.proofs.Chunks.{Good, good_nil, in_all, sum_all}
use Rattle.ledger.proofs.Written.{front, length_front, has_front, probes_front, mask_front, used_on, whole_on, torn_on, right_on, used_off, whole_off, torn_off, right_off}

-- J is the ledger's, with any bytes x after it in its buffer
pub record Known (s : Sweep) (l : Ledger) : Type 0 where
  pub good : Good s l.lines
  pub is_right : (x : List ℕ) → right (cells s) s.samples s.header (ledger_journal s l ++ x) (length (ledger_journal s l)) ≡ true
  pub is_torn : torn (length (ledger_journal s l)) ≡ unfinished l
  pub has : (x : List ℕ) (c : ℕ) → has_chunk (ledger_journal s l ++ x) (whole_lines (length (ledger_journal s l))) c ≡ is_in c l.lines
  pub probes : (x : List ℕ) → unfinished l ≡ false → are_in (chunks (cells s)) l.lines ≡ true
      → held_probes (ledger_journal s l ++ x) (whole_lines (length (ledger_journal s l))) ≡ sweep_probes s
  pub mask : (x : List ℕ) → unfinished l ≡ false → are_in (chunks (cells s)) l.lines ≡ true
      → tab (cells s) (held_bit (ledger_journal s l ++ x) (length (ledger_journal s l))) ≡ sweep_mask s
  pub keeps : kept (length (ledger_journal s l)) ≡ length (ended s l)

module _ (s : Sweep) (a : SweepFacts s) where
  -- the mark is off, and the first k bytes of the header are left
  pub known_off : (k : ℕ) → k < header_length → (w : Write) → Known s (record { mark = false; lines = []; remnant = take k s.header; last = w })
  unfolding ledger_journal has_chunk is_in kept
  known_off k h w = record {
    good = good_nil s;
    is_right = right_off s a k h;
    is_torn = torn_off s a k h;
    has = λ x c. ap (λ (n : ℕ). has_chunk (take k s.header ++ x) n c) (whole_off s a k h);
    probes = λ x u v. absurd (false≢true (sym u));
    mask = λ x u v. absurd (false≢true (sym u));
    keeps = simp (lt-ltb (length (take k s.header)) header_length (omega (arith, used_off s a k h)));
  }

  -- each cell's bit
  mask_all : (L q : List ℕ) → Good s L → are_in (chunks (cells s)) L ≡ true
      → tab (cells s) (λ i. bit_of (held_mask (front s L ++ q) (length L) (i / 64)) (i % 64)) ≡ sweep_mask s
  unfolding sweep_mask chunks
  mask_all L q g h =
      tab_ext (cells s) _ (λ i. flag (marked s i))
      (λ i l. ap (λ (m : ℕ). bit_of m (i % 64)) (mask_front s a (i / 64) L q g (in_all (chunks (cells s)) L h (i / 64) (omega arith))) ∙ cell_bit_lem s i l)

  -- the mark is on: the lines of L, and a remnant r
  pub known_on : (L r : List ℕ) → Good s L → length r < line_length → (w : Write) → Known s (record { mark = true; lines = L; remnant = r; last = w })
  unfolding ledger_journal kept held_bit
  known_on L r g h w =
      let e : (x : List ℕ) → front s L ++ r ++ x ≡ front s L ++ (r ++ x) = λ x. append_assoc (front s L) r x in
      let n : whole_lines (length (front s L ++ r)) ≡ length L = whole_on s a L r h in
      record {
        good = g;
        is_right = λ x. right_on s a L r h x g;
        is_torn = torn_on s a L r h;
        has = λ x c. ap₂ (λ (b : List ℕ) (m : ℕ). has_chunk b m c) (e x) n ∙ has_front s a L (r ++ x) g c;
        probes = λ x u v.
            ap₂ held_probes (e x) n
            ∙ probes_front s a L (r ++ x) g
            ∙ sum_all (chunks (cells s)) (chunk_probes s) L g.exist g.distinct v
            ∙ probes_chunks s;
        mask = λ x u v.
            ap₂ (λ (b : List ℕ) (j : ℕ). tab (cells s) (λ i. bit_of (held_mask b j (i / 64)) (i % 64))) (e x) n ∙ mask_all L (r ++ x) g v;
        keeps =
            ap (λ (t : Bool). cond t 0 (header_length + line_length * whole_lines (length (front s L ++ r)))) (le-ltb (length (front s L ++ r)) header_length (omega (arith, used_on s a L r h)))
            ∙ ap (λ (j : ℕ). header_length + line_length * j) n
            ∙ sym (length_front s a L);
      }

-- ---- so the calls' refusals are the ledger's. No 7 is looked into

length_empty : (j : List ℕ) → eqb (length j) 0 ≡ is_empty j
length_empty [] = eq-eqb 0 0 refl
length_empty (x ∷ j) = eqb-suc-zero (length j)

module _ (s : Sweep) (a : SweepFacts s) (l : Ledger) where
  -- the plan is accepted, and the buffer holds the journal: a call's own conditions decide
  plan_passes : (x : List ℕ) (own : Conditions) → first (after_plan s (ledger_journal s l ++ x) (length (ledger_journal s l)) own) ≡ first own
  plan_passes x own =
      let j : List ℕ = ledger_journal s l in
      plan_clear s (j ++ x) (length j) own (ap s.refusal (le-ltb (length (j ++ x)) (length j) (omega (arith, length-append j x))) ∙ a.plan)

  pub begin_same : (x : List ℕ) → begin_refusal s (ledger_journal s l ++ x) (length (ledger_journal s l)) ≡ ledger_refusal s (begins (length (ledger_journal s l ++ x))) l
  unfolding begin_refusal ledger_refusal
  begin_same x =
      let j : List ℕ = ledger_journal s l in
      plan_passes x (begin_conditions (j ++ x) (length j)) ∙ (λ i. first ((not (length_empty j i), 13) ∷ (begin_short (length (j ++ x)), 7) ∷ []))

  module _ (f : Known s l) where
    not_wrong : (x : List ℕ) → wrong s (ledger_journal s l ++ x) (length (ledger_journal s l)) ≡ false
    unfolding wrong
    not_wrong x = ap not (f.is_right x)

    pub work_same : (c : ℕ) (x : List ℕ) → work_refusal s c (ledger_journal s l ++ x) (length (ledger_journal s l)) ≡ ledger_refusal s (works c (length (ledger_journal s l ++ x))) l
    unfolding work_refusal ledger_refusal
    work_same c x =
        let j : List ℕ = ledger_journal s l in
        plan_passes x (work_conditions s c (j ++ x) (length j))
        ∙ (λ i. first ((leb (chunks (cells s)) c, 9) ∷ (not_wrong x i, 11) ∷ (f.is_torn i, 12) ∷ (f.has x c i, 10) ∷ (work_short (length (j ++ x)) (length j), 7) ∷ []))

    pub range_same : (from to : ℕ) (x : List ℕ) → range_refusal s from to (ledger_journal s l ++ x) (length (ledger_journal s l)) ≡ ledger_range_refusal s from to (length (ledger_journal s l ++ x)) l
    unfolding range_refusal ledger_range_refusal
    range_same from to x =
        plan_passes x (range_conditions s from to (ledger_journal s l ++ x) (length (ledger_journal s l))) ∙ (λ i. first ((leb to from, 9) ∷ carried (work_same from x i) ∷ []))

    pub recover_same : (x : List ℕ) → recover_refusal s (ledger_journal s l ++ x) (length (ledger_journal s l)) ≡ 0
    unfolding recover_refusal
    recover_same x = plan_passes x (recover_conditions s (ledger_journal s l ++ x) (length (ledger_journal s l))) ∙ (λ i. first ((not_wrong x i, 11) ∷ []))

    -- what the ledger refuses, condition by condition
    collect_conditions_of : (room mask : ℕ) → ledger_refusal s (collects room mask) l ≡ first ((unfinished l, 12) ∷ (not (are_in (chunks (cells s)) l.lines), 15) ∷ (collect_short s mask, 7) ∷ [])
    unfolding ledger_refusal
    collect_conditions_of room mask = refl

    pub collect_same : (x o : List ℕ) → collect_refusal s (ledger_journal s l ++ x) (length (ledger_journal s l)) o ≡ ledger_refusal s (collects (length (ledger_journal s l ++ x)) (length o)) l
    unfolding collect_refusal has_chunks are_in
    collect_same x o =
        let all : has_chunks (ledger_journal s l ++ x) (whole_lines (length (ledger_journal s l))) (chunks (cells s)) ≡ are_in (chunks (cells s)) l.lines =
        all_ext (chunks (cells s)) _ (λ c. is_in c l.lines) (λ c h. f.has x c) in
        plan_passes x (collect_conditions s (ledger_journal s l ++ x) (length (ledger_journal s l)) o)
        ∙ (λ i. first ((not_wrong x i, 11) ∷ (f.is_torn i, 12) ∷ (not (all i), 15) ∷ (collect_short s (length o), 7) ∷ []))
        ∙ sym (collect_conditions_of (length (ledger_journal s l ++ x)) (length o))
