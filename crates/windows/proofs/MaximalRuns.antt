-- The runs of specs/Runs.antt are exactly the maximal runs, each once, in time order, and as many as there are samples with none before them.
-- In order: each run of the list is maximal; each maximal one is in the list; the order of the list, and that it fixes the list; how
-- many there are; filtered lists; the two lists of document 01. Assumes nothing.
use Rattle.std.proofs.Common.{◌≡◌, ℕ, zero, suc, ◌+◌, ◌-◌, ◌*◌, ◌/◌, ◌<◌, ◌≤◌, Bool, true, false, cond, ◌||◌, eqb, ltb, ◌⊎◌, List, [], ◌∷◌, length, sym, refl, ap, ◌∙◌, subst, ap₂, inl, inr, ⊎_elim, true≢false, add-zero, eq-or-lt_of_le, arith, ltb-true, lt-ltb, eq-eqb, eqb-true}
use native.Mathlib.Decide.{dec_le}
use mathlib.Core.Bool.{or-true}
use mathlib.Core.List.Memᴰ
use mathlib.Core.List.{Memᴰ}
use lib.ListN.{length-map, get_or-eq_default}
use Rattle.buffers.specs.Ranges.{flag}
use Rattle.windows.specs.Runs.{Run, run, Open, shut, since, runs_from, samples_are, filter, violation_runs, rule_v, visibility_runs}
use Rattle.windows.specs.Steps.{starts}
use Rattle.windows.specs.Maximal.{true_at, sample_is, Maximal, Visible, InOrder, Exactly}

-- `m` are the samples of g from i on
Tail : (ℕ → Bool) → ℕ → List Bool → Type 0
Tail g i m = (k : ℕ) → true_at m k ≡ g (i + k)

-- what the open run is, before sample i
abbrev Good : (ℕ → Bool) → ℕ → Open → Type 0
Good g i shut = (k : ℕ) → suc k ≡ i → g k ≡ false
Good g i (since s) = (s < i) × ((k : ℕ) → s ≤ k → k < i → g k ≡ true) × ((k : ℕ) → suc k ≡ s → g k ≡ false)

tail_here : (g : ℕ → Bool) (i : ℕ) (b : Bool) (m : List Bool) → Tail g i (b ∷ m) → g i ≡ b
unfolding Tail
tail_here g i b m t = sym (rw (add-zero i) at (t zero))

tail_next : (g : ℕ → Bool) (i : ℕ) (b : Bool) (m : List Bool) → Tail g i (b ∷ m) → Tail g (suc i) m
unfolding Tail
tail_next g i b m t k = let e : i + suc k ≡ suc i + k = omega arith in t (suc k) ∙ ap g e

tail_end : (g : ℕ → Bool) (i k : ℕ) → Tail g i [] → i ≤ k → g k ≡ false
unfolding Tail
tail_end g i k t h = let e : i + (k - i) ≡ k = omega arith in sym (t (k - i) ∙ ap g e)

-- no sample is both
clash {ℓ} : {X : Type ℓ} {b : Bool} → b ≡ true → b ≡ false → X
clash p q = absurd (true≢false (sym p ∙ q))

eq_run : (r : Run) (f l : ℕ) → r.first ≡ f → r.last ≡ l → r ≡ run f l
eq_run r f l p q = λ i. record { first = p i; last = q i }

-- ---- each of them is maximal

shut_on : (g : ℕ → Bool) (i : ℕ) → g i ≡ false → Good g (suc i) shut
shut_on g i e k h = let p : k ≡ i = omega arith in ap g p ∙ e

since_new : (g : ℕ → Bool) (i : ℕ) → Good g i shut → g i ≡ true → Good g (suc i) (since i)
since_new g i o e = (omega arith, (λ k h h'. let p : k ≡ i = omega arith in ap g p ∙ e), o)

since_on : (g : ℕ → Bool) (i s : ℕ) → Good g i (since s) → g i ≡ true → Good g (suc i) (since s)
since_on g i s o e = (omega arith, (λ k h h'. ⊎_elim (λ p. ap g p ∙ e) (λ (p : k < i). o.1 k h p) (eq-or-lt_of_le (let q : k ≤ i = omega arith in q))), o.2)

ended : (g : ℕ → Bool) (i s : ℕ) → Good g i (since s) → g i ≡ false → Maximal g (run s (i - 1))
ended g i s o e = record {
  ordered = omega (arith, o.0);
  inside = λ k h h'. o.1 k h (omega (arith, o.0));
  before = o.2;
  after = let p : suc (i - 1) ≡ i = omega (arith, o.0) in ap g p ∙ e;
}

sound : (g : ℕ → Bool) (i : ℕ) (o : Open) (m : List Bool) → Tail g i m → Good g i o → (r : Run) → Memᴰ r (runs_from i o m) → Maximal g r
unfolding runs_from
sound g i shut [] t o r h = absurd (Memᴰ.not-nil h)
sound g i (since s) [] t o r h = subst (Maximal g) (sym (Memᴰ.eq_of_singleton h)) (ended g i s o (tail_end g i i t (omega arith)))
sound g i shut (false ∷ m) t o r h = sound g (suc i) shut m (tail_next g i false m t) (shut_on g i (tail_here g i false m t)) r h
sound g i shut (true ∷ m) t o r h = sound g (suc i) (since i) m (tail_next g i true m t) (since_new g i o (tail_here g i true m t)) r h
sound g i (since s) (true ∷ m) t o r h = sound g (suc i) (since s) m (tail_next g i true m t) (since_on g i s o (tail_here g i true m t)) r h
sound g i (since s) (false ∷ m) t o r h =
    ⊎_elim
    (λ e. subst (Maximal g) (sym e) (ended g i s o (tail_here g i false m t)))
    (λ h'. sound g (suc i) shut m (tail_next g i false m t) (shut_on g i (tail_here g i false m t)) r h')
    (Memᴰ.cases_cons h)

-- ---- each maximal run is among them

abbrev pub From : ℕ → Open → Run → Type 0
From i shut r = i ≤ r.first
From i (since s) r = (r.first ≡ s) ⊎ (i ≤ r.first)

-- a maximal run does not begin at a false sample, nor directly after a true one
not_at : (g : ℕ → Bool) (i : ℕ) (r : Run) → Maximal g r → g i ≡ false → i ≤ r.first → suc i ≤ r.first
not_at g i r x e h = ⊎_elim (λ p. clash (x.inside i (omega arith) (omega (arith, x.ordered))) e) (λ q. q) (eq-or-lt_of_le h)

not_after : (g : ℕ → Bool) (i s : ℕ) (r : Run) → Maximal g r → Good g i (since s) → i ≤ r.first → suc i ≤ r.first
not_after g i s r x o h =
    ⊎_elim (λ p. clash (o.1 (i - 1) (omega (arith, o.0)) (omega (arith, o.0))) (x.before (i - 1) (omega (arith, o.0)))) (λ q. q) (eq-or-lt_of_le h)

-- one that begins where the open run began ends where it ends
same_end : (g : ℕ → Bool) (i s : ℕ) (r : Run) → Maximal g r → Good g i (since s) → g i ≡ false → r.first ≡ s → r ≡ run s (i - 1)
same_end g i s r x o e p = eq_run r s (i - 1) p (omega (arith, o.0, low, high))
  where
    low : i ≤ suc r.last
    low = elim (dec_le i (suc r.last)) [ yes h ↦ h | no h ↦ clash (o.1 (suc r.last) (omega (arith, x.ordered)) (omega arith)) x.after ]

    high : r.last < i
    high = elim (dec_le i r.last) [ yes h ↦ clash (x.inside i (omega (arith, o.0)) h) e | no h ↦ omega arith ]

complete : (g : ℕ → Bool) (i : ℕ) (o : Open) (m : List Bool) → Tail g i m → Good g i o → (r : Run) → Maximal g r → From i o r → Memᴰ r (runs_from i o m)
unfolding runs_from
complete g i shut [] t o r x f = clash (x.inside r.first (omega arith) x.ordered) (tail_end g i r.first t f)
complete g i (since s) [] t o r x f =
    ⊎_elim
    (λ p. Memᴰ.head (same_end g i s r x o (tail_end g i i t (omega arith)) p))
    (λ q. clash (x.inside r.first (omega arith) x.ordered) (tail_end g i r.first t q))
    f
complete g i shut (false ∷ m) t o r x f =
    let e = tail_here g i false m t in
    complete g (suc i) shut m (tail_next g i false m t) (shut_on g i e) r x (not_at g i r x e f)
complete g i shut (true ∷ m) t o r x f =
    complete g (suc i) (since i) m (tail_next g i true m t) (since_new g i o (tail_here g i true m t)) r x
    (⊎_elim (λ p. inl (sym p)) (λ q. inr q) (eq-or-lt_of_le f))
complete g i (since s) (true ∷ m) t o r x f =
    complete g (suc i) (since s) m (tail_next g i true m t) (since_on g i s o (tail_here g i true m t)) r x
    (⊎_elim (λ p. inl p) (λ q. inr (not_after g i s r x o q)) f)
complete g i (since s) (false ∷ m) t o r x f =
    let e = tail_here g i false m t in
    ⊎_elim
    (λ p. Memᴰ.head (same_end g i s r x o e p))
    (λ q. Memᴰ.tail (complete g (suc i) shut m (tail_next g i false m t) (shut_on g i e) r x (not_at g i r x e q)))
    f

-- ---- in time order, none touching the next, so each once

-- an open run began before sample i
abbrev pub Past : ℕ → Open → Type 0
Past i shut = Unit {0}
Past i (since s) = s < i

pub later : (i : ℕ) (o : Open) (m : List Bool) (x : Run) → Memᴰ x (runs_from i o m) → From i o x
unfolding runs_from
later i shut [] x h = absurd (Memᴰ.not-nil h)
later i (since s) [] x h = inl (ap (λ (r : Run). r.first) (Memᴰ.eq_of_singleton h))
later i shut (false ∷ m) x h = omega (arith, later (suc i) shut m x h)
later i shut (true ∷ m) x h = ⊎_elim (λ p. omega arith) (λ q. omega arith) (later (suc i) (since i) m x h)
later i (since s) (true ∷ m) x h = ⊎_elim (λ p. inl p) (λ q. inr (omega arith)) (later (suc i) (since s) m x h)
later i (since s) (false ∷ m) x h = ⊎_elim (λ e. inl (ap (λ (r : Run). r.first) e)) (λ h'. inr (omega (arith, later (suc i) shut m x h'))) (Memᴰ.cases_cons h)

order : (i : ℕ) (o : Open) (m : List Bool) → Past i o → InOrder (runs_from i o m)
unfolding runs_from
order i shut [] p = tt
order i (since s) [] p = (omega arith, (λ x h. absurd (Memᴰ.not-nil h)), tt)
order i shut (false ∷ m) p = order (suc i) shut m tt
order i shut (true ∷ m) p = order (suc i) (since i) m (omega arith)
order i (since s) (true ∷ m) p = order (suc i) (since s) m (omega arith)
order i (since s) (false ∷ m) p = (omega arith, (λ x h. omega (arith, later (suc i) shut m x h)), order (suc i) shut m tt)

-- two lists in time order with the same members are equal
abbrev pub Sub : List Run → List Run → Type 0
Sub ps qs = (x : Run) → Memᴰ x ps → Memᴰ x qs

-- their heads are one run: each is in the other list, and neither lies after the other
heads : (a b : Run) (ps qs : List Run) → InOrder (a ∷ ps) → InOrder (b ∷ qs) → Memᴰ a (b ∷ qs) → Memᴰ b (a ∷ ps) → a ≡ b
heads a b ps qs p q m n =
    ⊎_elim
    (λ e. e)
    (λ (h : Memᴰ a qs). ⊎_elim (λ e. sym e) (λ (g : Memᴰ b ps). let z : ⊥ = omega (arith, q.1 a h, p.1 b g, p.0, q.0) in absurd z) (Memᴰ.cases_cons n))
    (Memᴰ.cases_cons m)

-- a member of the tail is in the other tail, the heads being one
tails : (a b : Run) (ps qs : List Run) → InOrder (a ∷ ps) → a ≡ b → Sub (a ∷ ps) (b ∷ qs) → Sub ps qs
tails a b ps qs p e s x h =
    ⊎_elim (λ (k : x ≡ b).
    let d : suc a.last < x.first = p.1 x h in
    let f : x.first ≡ a.first = ap (λ (r : Run). r.first) (k ∙ sym e) in
    let z : ⊥ = omega (arith, p.0) in absurd z)
    (λ g. g) (Memᴰ.cases_cons (s x (Memᴰ.tail h)))

pub unique : (ps qs : List Run) → InOrder ps → InOrder qs → Sub ps qs → Sub qs ps → ps ≡ qs
unique [] [] p q s t = refl
unique [] (b ∷ qs) p q s t = absurd (Memᴰ.not-nil (t b (Memᴰ.head refl)))
unique (a ∷ ps) [] p q s t = absurd (Memᴰ.not-nil (s a (Memᴰ.head refl)))
unique (a ∷ ps) (b ∷ qs) p q s t =
    let e : a ≡ b = heads a b ps qs p q (s a (Memᴰ.head refl)) (t b (Memᴰ.head refl)) in
    ap₂ {C = List Run} (λ x xs. x ∷ xs) e (unique ps qs p.2 q.2 (tails a b ps qs p e s) (tails b a qs ps q (sym e) t))

-- ---- as many as the samples with none before them, so at most half as many as the samples, rounded up

-- whether a run is open, and how many are
abbrev is_open : Open → Bool
is_open shut = false
is_open (since s) = true

count : (i : ℕ) (o : Open) (m : List Bool) → length (runs_from i o m) ≡ flag (is_open o) + starts (is_open o) m
unfolding runs_from starts
count i shut [] = refl
count i (since s) [] = refl
count i shut (false ∷ m) = omega (arith, count (suc i) shut m)
count i shut (true ∷ m) = omega (arith, count (suc i) (since i) m)
count i (since s) (true ∷ m) = omega (arith, count (suc i) (since s) m)
count i (since s) (false ∷ m) = omega (arith, count (suc i) shut m)

few_starts : (b : Bool) (m : List Bool) → 2 * starts b m + flag b ≤ length m + 1
unfolding starts
few_starts true [] = omega arith
few_starts false [] = omega arith
few_starts true (true ∷ m) = omega (arith, few_starts true m)
few_starts true (false ∷ m) = omega (arith, few_starts false m)
few_starts false (true ∷ m) = omega (arith, few_starts true m)
few_starts false (false ∷ m) = omega (arith, few_starts false m)

pub as_many_as_starts : (m : List Bool) → length (runs_from 0 shut m) ≡ starts false m
as_many_as_starts m = omega (arith, count 0 shut m)

pub at_most_half : (m : List Bool) → length (runs_from 0 shut m) ≤ (length m + 1) / 2
at_most_half m = omega (arith, as_many_as_starts m, few_starts false m)

-- ---- of a whole row

samples : (m : List Bool) → Tail (true_at m) 0 m
unfolding Tail
samples m k = let e : k ≡ 0 + k = omega arith in ap (true_at m) e

none_before : (m : List Bool) → Good (true_at m) 0 shut
none_before m k h = let z : ⊥ = omega arith in absurd z

pub each_is_maximal : (m : List Bool) (r : Run) → Memᴰ r (runs_from 0 shut m) → Maximal (true_at m) r
each_is_maximal m r h = sound (true_at m) 0 shut m (samples m) (none_before m) r h

pub each_maximal_is_there : (m : List Bool) (r : Run) → Maximal (true_at m) r → Memᴰ r (runs_from 0 shut m)
each_maximal_is_there m r x = complete (true_at m) 0 shut m (samples m) (none_before m) r x (omega arith)

pub in_order_lem : (m : List Bool) → InOrder (runs_from 0 shut m)
in_order_lem m = order 0 shut m tt

-- the last sample of a maximal run is one of the row
pub within : (m : List Bool) (r : Run) → Maximal (true_at m) r → r.last < length m
within m r x = elim (dec_le (length m) r.last) [ yes h ↦ clash (x.inside r.last x.ordered (omega arith)) (get_or-eq_default m false h) | no h ↦ omega arith ]

-- ---- filtered lists

module _ {A : Type 0} (p : A → Bool) where
  pub in_filter : (x : A) (l : List A) → Memᴰ x (filter p l) → Memᴰ x l × (p x ≡ true)
  unfolding filter
  in_filter x [] h = absurd (Memᴰ.not-nil h)
  in_filter x (y ∷ l) h = go (p y) refl (λ h'. let r = in_filter x l h' in (Memᴰ.tail r.0, r.1)) h
    where
      go : (b : Bool) → p y ≡ b → (Memᴰ x (filter p l) → Memᴰ x (y ∷ l) × (p x ≡ true)) → Memᴰ x (cond b (y ∷ filter p l) (filter p l)) → Memᴰ x (y ∷ l) × (p x ≡ true)
      go true e below h' = ⊎_elim (λ q. (Memᴰ.head q, ap p q ∙ e)) below (Memᴰ.cases_cons h')
      go false e below h' = below h'

  pub to_filter : (x : A) (l : List A) → Memᴰ x l → p x ≡ true → Memᴰ x (filter p l)
  unfolding filter
  to_filter x [] h e = absurd (Memᴰ.not-nil h)
  to_filter x (y ∷ l) h e = ⊎_elim (λ q. head (p y) (ap p (sym q) ∙ e) q) (λ h'. tail (p y) (to_filter x l h' e)) (Memᴰ.cases_cons h)
    where
      head : (b : Bool) → b ≡ true → x ≡ y → Memᴰ x (cond b (y ∷ filter p l) (filter p l))
      head true t q = Memᴰ.head q
      head false t q = clash refl (sym t)

      tail : (b : Bool) → Memᴰ x (filter p l) → Memᴰ x (cond b (y ∷ filter p l) (filter p l))
      tail true h' = Memᴰ.tail h'
      tail false h' = h'

  pub filter_length : (l : List A) → length (filter p l) ≤ length l
  unfolding filter
  filter_length [] = omega arith
  filter_length (y ∷ l) = go (p y) (filter_length l)
    where
      go : (b : Bool) → length (filter p l) ≤ length l → length (cond b (y ∷ filter p l) (filter p l)) ≤ suc (length l)
      go true h = omega arith
      go false h = omega arith

pub filter_order : (p : Run → Bool) (l : List Run) → InOrder l → InOrder (filter p l)
unfolding filter
filter_order p [] o = tt
filter_order p (r ∷ l) o = go (p r) (filter_order p l o.2)
  where
    go : (b : Bool) → InOrder (filter p l) → InOrder (cond b (r ∷ filter p l) (filter p l))
    go true q = (o.0, (λ x h. o.1 x (in_filter p x l h).0), q)
    go false q = q

-- ---- the two lists

-- one list holds exactly the runs that P says
pub exactly_one : (P : Run → Type 0) (ps qs : List Run) → Exactly P ps → Exactly P qs → ps ≡ qs
exactly_one P ps qs p q = unique ps qs p.order q.order (λ x h. q.each x (p.only x h)) (λ x h. p.each x (q.only x h))

pub length_samples : (v : ℕ) (m : List ℕ) → length (samples_are v m) ≡ length m
unfolding samples_are
length_samples v m = length-map m (λ (b : ℕ). eqb b v)

pub violation_runs_lem : (m : List ℕ) → Exactly (Maximal (sample_is 1 m)) (violation_runs m)
unfolding violation_runs samples_are
violation_runs_lem m = record { only = each_is_maximal (samples_are 1 m); each = each_maximal_is_there (samples_are 1 m); order = in_order_lem (samples_are 1 m) }

-- how many: the marked samples with no marked one directly before them
pub violation_count : (m : List ℕ) → length (violation_runs m) ≡ starts false (samples_are 1 m)
unfolding violation_runs
violation_count m = as_many_as_starts (samples_are 1 m)

pub violation_bound : (m : List ℕ) → length (violation_runs m) ≤ (length m + 1) / 2
unfolding violation_runs
violation_bound m = omega (arith, at_most_half (samples_are 1 m), length_samples 1 m)

kept_yes : (n : ℕ) (r : Run) → rule_v n r ≡ true → (r.first < r.last) ⊎ (r.last + 1 ≡ n)
unfolding rule_v
kept_yes n r e = go (ltb r.first r.last) refl (eqb (r.last + 1) n) refl e
  where
    go : (a : Bool) → ltb r.first r.last ≡ a → (b : Bool) → eqb (r.last + 1) n ≡ b → (a || b) ≡ true → (r.first < r.last) ⊎ (r.last + 1 ≡ n)
    go true p b q h = inl (ltb-true r.first r.last p)
    go false p true q h = inr (eqb-true _ _ q)
    go false p false q h = clash refl (sym h)

yes_kept : (n : ℕ) (r : Run) → (r.first < r.last) ⊎ (r.last + 1 ≡ n) → rule_v n r ≡ true
unfolding rule_v
yes_kept n r (inl h) = rw (lt-ltb r.first r.last h)
yes_kept n r (inr h) = rw (eq-eqb _ _ h) (or-true (ltb r.first r.last))

pub visibility_runs_lem : (m : List ℕ) → Exactly (Visible m) (visibility_runs m)
unfolding visibility_runs samples_are
visibility_runs_lem m = record {
  only = λ r h. let q = in_filter (rule_v (length m)) r (runs_from 0 shut (samples_are 0 m)) h in record { clear = each_is_maximal (samples_are 0 m) r q.0; long = kept_yes (length m) r q.1 };
  each = λ r x. to_filter (rule_v (length m)) r (runs_from 0 shut (samples_are 0 m)) (each_maximal_is_there (samples_are 0 m) r x.clear) (yes_kept (length m) r x.long);
  order = filter_order (rule_v (length m)) (runs_from 0 shut (samples_are 0 m)) (in_order_lem (samples_are 0 m));
}

pub visibility_bound : (m : List ℕ) → length (visibility_runs m) ≤ (length m + 1) / 2
unfolding visibility_runs
visibility_bound m = omega (arith, filter_length (rule_v (length m)) (runs_from 0 shut (samples_are 0 m)), at_most_half (samples_are 0 m), length_samples 0 m)
