-- With strictly increasing times, expanding the violation windows of a mask gives the mask back. In order: the order of times; where the runs lie; the
-- expansion, time by time; the row. Assumes nothing.
use Rattle.std.proofs.Common.{◌≡◌, ℕ, zero, suc, ◌+◌, ◌-◌, ◌<◌, ◌≤◌, Bool, true, false, cond, not, ◌&&◌, ◌||◌, eqb, ltb, List, [], ◌∷◌, map, length, get_or, ℤ, pos, negsuc, sym, refl, ap, ◌∙◌, subst, ⊎_elim, true≢false, add-zero, eq-or-lt_of_le, arith, ltb-false, ltb-true, le-ltb}
use mathlib.Core.List.Memᴰ
use mathlib.Core.List.{Memᴰ}
use lib.Signed.{lt_z}
use Rattle.buffers.specs.Ranges.{flag, any}
use Rattle.windows.specs.Runs.{Run, Open, shut, since, runs_from, run, samples_are, violation_runs}
use Rattle.windows.specs.Refusal.{bad_mark}
use Rattle.windows.specs.Expand.{Span, span, spans, Increasing, in_order, skip, in_first, expanded_in_order, expanded_reordered, expanded}
use Rattle.windows.proofs.MaximalRuns.{Past, later, length_samples}

-- ---- the order of times
asym : (a b : ℤ) → lt_z a b ≡ true → lt_z b a ≡ false
asym (pos a) (pos b) e = le-ltb b a (omega (arith, ltb-true a b e))
asym (pos a) (negsuc b) e = absurd (true≢false (sym e))
asym (negsuc a) (pos b) e = refl
asym (negsuc a) (negsuc b) e = le-ltb a b (omega (arith, ltb-true b a e))

irrefl : (a : ℤ) → lt_z a a ≡ false
irrefl (pos a) = le-ltb a a (omega arith)
irrefl (negsuc a) = le-ltb a a (omega arith)

-- ---- where the runs lie
bounds : (i : ℕ) (o : Open) (m : List Bool) → Past i o → (x : Run) → Memᴰ x (runs_from i o m) → (x.first ≤ x.last) × (x.last < i + length m)
unfolding runs_from
bounds i shut [] p x h = absurd (Memᴰ.not-nil h)
bounds i (since s) [] p x h =
    let e = Memᴰ.eq_of_singleton h in
    let f : x.first ≡ s = ap (λ (r : Run). r.first) e in
    let l : x.last ≡ i - 1 = ap (λ (r : Run). r.last) e in
    (omega arith, omega arith)
bounds i shut (false ∷ m) p x h = let r = bounds (suc i) shut m tt x h in (r.0, omega (arith, r.1))
bounds i shut (true ∷ m) p x h = let r = bounds (suc i) (since i) m (omega arith) x h in (r.0, omega (arith, r.1))
bounds i (since s) (true ∷ m) p x h = let r = bounds (suc i) (since s) m (omega arith) x h in (r.0, omega (arith, r.1))
bounds i (since s) (false ∷ m) p x h =
    ⊎_elim
    (λ e. let f : x.first ≡ s = ap (λ (r : Run). r.first) e in let l : x.last ≡ i - 1 = ap (λ (r : Run). r.last) e in (omega arith, omega arith))
    (λ h'. let r = bounds (suc i) shut m tt x h' in (r.0, omega (arith, r.1)))
    (Memᴰ.cases_cons h)

-- an open run is the first of those to come
record Begins (i s : ℕ) (m : List Bool) : Type 0 where
  end : ℕ
  others : List Run
  is : runs_from i (since s) m ≡ run s end ∷ others
  low : i ≤ suc end
  high : end < i + length m

begins : (i s : ℕ) (m : List Bool) → s < i → Begins i s m
unfolding runs_from
begins i s [] h = record { end = i - 1; others = []; is = refl; low = omega arith; high = omega arith }
begins i s (true ∷ m) h = let b = begins (suc i) s m (omega arith) in record { end = b.end; others = b.others; is = b.is; low = omega (arith, b.low); high = omega (arith, b.high) }
begins i s (false ∷ m) h = record { end = i - 1; others = runs_from (suc i) shut m; is = refl; low = omega arith; high = omega arith }

module _ (T : ℕ → ℤ) where
  -- the windows of runs at the times T
  abbrev pub windows : List Run → List Span
  windows = map (λ (r : Run). span (T r.first) (T r.last))

  module _ (n : ℕ) (up : (j k : ℕ) → j < k → k < n → lt_z (T j) (T k) ≡ true) where
    not_down : (j k : ℕ) → j ≤ k → k < n → lt_z (T k) (T j) ≡ false
    not_down j k h q = ⊎_elim (λ e. ap (λ (x : ℕ). lt_z (T k) (T x)) e ∙ irrefl (T k)) (λ l. asym (T j) (T k) (up j k l q)) (eq-or-lt_of_le h)

    -- windows that all begin after sample i
    quiet : (i : ℕ) (rs : List Run) → ((x : Run) → Memᴰ x rs → (i < x.first) × (x.first ≤ x.last) × (x.last < n)) → (skip (T i) (windows rs) ≡ windows rs) × (in_first (T i) (windows rs) ≡ false)
    unfolding skip in_first
    quiet i [] h = (refl, refl)
    quiet i (r ∷ rs) h =
        let b = h r (Memᴰ.head refl) in
        let e : lt_z (T r.last) (T i) ≡ false = not_down i r.last (omega arith) b.2 in
        let f : lt_z (T i) (T r.first) ≡ true = up i r.first b.0 (omega arith) in
        (ap (λ (x : Bool). cond x (skip (T i) (windows rs)) (windows (r ∷ rs))) e, ap (λ (x : Bool). not x && not (lt_z (T r.last) (T i))) f)

    -- a first window that holds sample i
    loud : (i : ℕ) (r : Run) (rs : List Run) → r.first ≤ i → i ≤ r.last → r.last < n → (skip (T i) (windows (r ∷ rs)) ≡ windows (r ∷ rs)) × (in_first (T i) (windows (r ∷ rs)) ≡ true)
    unfolding skip in_first
    loud i r rs a b q =
        let e : lt_z (T r.last) (T i) ≡ false = not_down i r.last b q in
        let f : lt_z (T i) (T r.first) ≡ false = not_down r.first i a (omega arith) in (
          ap (λ (x : Bool). cond x (skip (T i) (windows rs)) (windows (r ∷ rs))) e,
          ap (λ (x : Bool). not x && not (lt_z (T r.last) (T i))) f ∙ ap (λ (x : Bool). true && not x) e,
        )

    after : (i : ℕ) (m : List Bool) → suc i + length m ≤ n → (x : Run) → Memᴰ x (runs_from (suc i) shut m) → (i < x.first) × (x.first ≤ x.last) × (x.last < n)
    after i m h x q = let b = bounds (suc i) shut m tt x q in (later (suc i) shut m x q, b.0, omega (arith, b.1))

    open_loud : (i s : ℕ) (m : List Bool) → s ≤ i → suc i + length m ≤ n
        → (skip (T i) (windows (runs_from (suc i) (since s) m)) ≡ windows (runs_from (suc i) (since s) m)) × (in_first (T i) (windows (runs_from (suc i) (since s) m)) ≡ true)
    open_loud i s m h q =
        let b = begins (suc i) s m (omega arith) in
        subst (λ (rs : List Run). (skip (T i) (windows rs) ≡ windows rs) × (in_first (T i) (windows rs) ≡ true)) (sym b.is)
        (loud i (run s b.end) b.others h (omega (arith, b.low)) (omega (arith, b.high)))

    -- one sample
    one : (t : ℤ) (ts : List ℤ) (ws vs : List Span) (b : Bool) (rest : List ℕ) → skip t ws ≡ vs → in_first t vs ≡ b → expanded_in_order ts vs ≡ rest → expanded_in_order (t ∷ ts) ws ≡ flag b ∷ rest
    unfolding expanded_in_order
    one t ts ws vs b rest e f g =
        ap (λ (x : List Span). flag (in_first t x) ∷ expanded_in_order ts x) e ∙ ap (λ (x : Bool). flag x ∷ expanded_in_order ts vs) f ∙ ap (λ (x : List ℕ). flag b ∷ x) g

    step : (i : ℕ) (t : ℤ) (ts : List ℤ) (ws vs : List Span) (b : Bool) (rest : List ℕ) → t ≡ T (i + 0) → skip (T i) ws ≡ vs → in_first (T i) vs ≡ b → expanded_in_order ts vs ≡ rest → expanded_in_order (t ∷ ts) ws ≡ flag b ∷ rest
    step i t ts ws vs b rest e f g w = ap (λ (x : ℤ). expanded_in_order (x ∷ ts) ws) (e ∙ ap T (add-zero i)) ∙ one (T i) ts ws vs b rest f g w

    shift : (i : ℕ) (t : ℤ) (ts : List ℤ) (m : ℕ) → ((k : ℕ) → k < suc m → get_or (t ∷ ts) k (pos 0) ≡ T (i + k)) → (k : ℕ) → k < m → get_or ts k (pos 0) ≡ T (suc i + k)
    shift i t ts m g k h = let e : i + suc k ≡ suc i + k = omega arith in g (suc k) (omega arith) ∙ ap T e

    -- `ts` are the times from sample i on
    runs_back : (i : ℕ) (o : Open) (m : List Bool) (ts : List ℤ) → Past i o → i + length m ≤ n → length ts ≡ length m → ((k : ℕ) → k < length m → get_or ts k (pos 0) ≡ T (i + k))
        → expanded_in_order ts (windows (runs_from i o m)) ≡ map flag m
    unfolding runs_from expanded_in_order skip
    runs_back i o [] [] p h l g = refl
    runs_back i o [] (t ∷ ts) p h l g = let z : ⊥ = omega arith in absurd z
    runs_back i o (b ∷ m) [] p h l g = let z : ⊥ = omega arith in absurd z
    runs_back i shut (false ∷ m) (t ∷ ts) p h l g =
        let q = quiet i (runs_from (suc i) shut m) (after i m (omega arith)) in
        step i t ts (windows (runs_from (suc i) shut m)) (windows (runs_from (suc i) shut m)) false (map flag m) (g zero (omega arith)) q.0 q.1
        (runs_back (suc i) shut m ts tt (omega arith) (omega arith) (shift i t ts (length m) g))
    runs_back i shut (true ∷ m) (t ∷ ts) p h l g =
        let q = open_loud i i m (omega arith) (omega arith) in
        step i t ts (windows (runs_from (suc i) (since i) m)) (windows (runs_from (suc i) (since i) m)) true (map flag m) (g zero (omega arith)) q.0 q.1
        (runs_back (suc i) (since i) m ts (omega arith) (omega arith) (omega arith) (shift i t ts (length m) g))
    runs_back i (since s) (true ∷ m) (t ∷ ts) p h l g =
        let q = open_loud i s m (omega arith) (omega arith) in
        step i t ts (windows (runs_from (suc i) (since s) m)) (windows (runs_from (suc i) (since s) m)) true (map flag m) (g zero (omega arith)) q.0 q.1
        (runs_back (suc i) (since s) m ts (omega arith) (omega arith) (omega arith) (shift i t ts (length m) g))
    runs_back i (since s) (false ∷ m) (t ∷ ts) p h l g =
        let q = quiet i (runs_from (suc i) shut m) (after i m (omega arith)) in
        let e : lt_z (T (i - 1)) (T i) ≡ true = up (i - 1) i (omega arith) (omega arith) in
        step i t ts (windows (run s (i - 1) ∷ runs_from (suc i) shut m)) (windows (runs_from (suc i) shut m)) false (map flag m) (g zero (omega arith))
        (ap (λ (x : Bool). cond x (skip (T i) (windows (runs_from (suc i) shut m))) (windows (run s (i - 1) ∷ runs_from (suc i) shut m))) e ∙ q.0) q.1
        (runs_back (suc i) shut m ts tt (omega arith) (omega arith) (shift i t ts (length m) g))

-- ---- a row of samples
spans_map : (f g : Run → ℤ) (rs : List Run) → spans (map f rs) (map g rs) ≡ map (λ (r : Run). span (f r) (g r)) rs
unfolding spans
spans_map f g [] = refl
spans_map f g (r ∷ rs) = ap (λ l. span (f r) (g r) ∷ l) (spans_map f g rs)

ordered : (ts : List ℤ) → ((k : ℕ) → k + 1 < length ts → lt_z (get_or ts (k + 1) (pos 0)) (get_or ts k (pos 0)) ≡ false) → in_order ts ≡ true
unfolding in_order
ordered [] h = refl
ordered (t ∷ []) h = refl
ordered (t ∷ u ∷ ts) h =
    ap (λ (x : Bool). not x && in_order (u ∷ ts)) (h 0 (omega arith))
    ∙ ordered (u ∷ ts) (λ k q. let e : suc (k + 1) ≡ suc k + 1 = omega arith in ap (λ (j : ℕ). lt_z (get_or (t ∷ u ∷ ts) j (pos 0)) (get_or (u ∷ ts) k (pos 0))) e ∙ h (suc k) (omega arith))

marks_back : (m : List ℕ) → any bad_mark m ≡ false → map flag (samples_are 1 m) ≡ m
unfolding any bad_mark samples_are
marks_back [] e = refl
marks_back (b ∷ m) e = go b (ltb 1 b) refl (marks_back m) e
  where
    go : (b : ℕ) (x : Bool) → ltb 1 b ≡ x → (any bad_mark m ≡ false → map flag (samples_are 1 m) ≡ m) → (x || any bad_mark m) ≡ false → flag (eqb b 1) ∷ map flag (samples_are 1 m) ≡ b ∷ m
    go zero false p f e = ap (λ l. 0 ∷ l) (f e)
    go zero true p f e = absurd (true≢false e)
    go (suc zero) false p f e = ap (λ l. 1 ∷ l) (f e)
    go (suc zero) true p f e = absurd (true≢false e)
    go (suc (suc b)) true p f e = absurd (true≢false e)
    go (suc (suc b)) false p f e = let z : ⊥ = omega (arith, ltb-false 1 (suc (suc b)) p) in absurd z

pub mask_back : (m : List ℕ) (times : List ℤ) → length times ≡ length m → any bad_mark m ≡ false → Increasing times
    → expanded times (spans (map (λ (r : Run). get_or times r.first (pos 0)) (violation_runs m)) (map (λ (r : Run). get_or times r.last (pos 0)) (violation_runs m))) ≡ m
unfolding expanded violation_runs
mask_back m times l e up =
    let T : ℕ → ℤ = λ k. get_or times k (pos 0) in
    let ws = spans (map (λ (r : Run). T r.first) (violation_runs m)) (map (λ (r : Run). T r.last) (violation_runs m)) in
    let lm : length (samples_are 1 m) ≡ length m = length_samples 1 m in
    ap (λ (x : Bool). cond x (expanded_in_order times ws) (expanded_reordered times ws)) (ordered times (λ k h. asym (T k) (T (k + 1)) (up k (k + 1) (omega arith) h)))
    ∙ ap (expanded_in_order times) (spans_map (λ (r : Run). T r.first) (λ (r : Run). T r.last) (violation_runs m))
    ∙ runs_back T (length times) up 0 shut (samples_are 1 m) times tt (omega arith) (omega arith) (λ k h. ap T (let z : k ≡ 0 + k = omega arith in z))
    ∙ marks_back m e
