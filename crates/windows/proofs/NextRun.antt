-- The runs of a mask, one after the other: what the loops over a mask ask. In order: how many elements lead a list; a clear sample is passed, and a
-- run ends; what is left of a listing's runs after each; how many runs start from a sample on. Assumes nothing.
use Rattle.std.proofs.Common.{◌≡◌, ℕ, zero, suc, ◌+◌, ◌-◌, ◌<◌, ◌≤◌, Bool, true, false, cond, not, ◌&&◌, eqb, List, [], ◌∷◌, map, length, get_or, drop, sym, refl, ap, ◌∙◌, subst, add-zero, add-one, arith, length-drop, drop_of_length-le, drop-cons, drop-drop, eq-eqb}
use Rattle.buffers.specs.Ranges.{flag}
use Rattle.windows.specs.Runs.{Run, run, shut, since, runs_from, samples_are, filter, violation_runs, visibility_runs}
use Rattle.windows.specs.Steps.{leading, starts, byte_of, keeps, runs_left, IsNextRun}
use Rattle.windows.specs.declared.Listing.{Listing}
use Rattle.windows.specs.declared.Listing.TheVariants.{Violations, Visibility}

-- ---- how many elements lead a list

module _ {A : Type 0} (p : A → Bool) where
  pub leading_length : (l : List A) → leading p l ≤ length l
  unfolding leading
  leading_length [] = omega arith
  leading_length (x ∷ l) = go (p x) (leading_length l)
    where
      go : (b : Bool) → leading p l ≤ length l → cond b (suc (leading p l)) 0 ≤ suc (length l)
      go true h = omega arith
      go false h = omega arith

  module _ (l : List A) (d : A) (i : ℕ) where
    here : i < length l → leading p (drop i l) ≡ cond (p (get_or l i d)) (suc (leading p (drop (i + 1) l))) 0
    unfolding leading
    here h = rw (add-one i, drop-cons l i d)

    -- a loop from `from` on: one element more, an element that ends it, the list's end
    pub leading_more : (from : ℕ) → i < length l → p (get_or l i d) ≡ true → i + leading p (drop i l) ≡ from + leading p (drop from l) → i + 1 + leading p (drop (i + 1) l) ≡ from + leading p (drop from l)
    leading_more from h e w = omega (arith, here h ∙ ap (λ (b : Bool). cond b (suc (leading p (drop (i + 1) l))) 0) e)

    pub leading_ends : (from : ℕ) → i < length l → p (get_or l i d) ≡ false → i + leading p (drop i l) ≡ from + leading p (drop from l) → i ≡ from + leading p (drop from l)
    leading_ends from h e w = omega (arith, here h ∙ ap (λ (b : Bool). cond b (suc (leading p (drop (i + 1) l))) 0) e)

    pub leading_all : (from : ℕ) → length l ≤ i → i + leading p (drop i l) ≡ from + leading p (drop from l) → i ≡ from + leading p (drop from l)
    unfolding leading
    leading_all from h w = omega (arith, ap (leading p) (drop_of_length-le l h))

leading_map : {A B : Type 0} (f : A → B) (p : B → Bool) (l : List A) → leading p (map f l) ≡ leading (λ x. p (f x)) l
unfolding leading
leading_map f p [] = refl
leading_map f p (x ∷ l) = ap (λ (n : ℕ). cond (p (f x)) (suc n) 0) (leading_map f p l)

drop_map : {A B : Type 0} (f : A → B) (k : ℕ) (l : List A) → drop k (map f l) ≡ map f (drop k l)
drop_map f zero l = refl
drop_map f (suc k) [] = refl
drop_map f (suc k) (x ∷ l) = drop_map f k l

-- ---- an open run ends after its last sample

abbrev itself : Bool → Bool
itself b = b

close_run : (i s : ℕ) (m : List Bool) → runs_from i (since s) m ≡ run s (i + leading itself m - 1) ∷ runs_from (i + leading itself m) shut (drop (leading itself m) m)
unfolding runs_from leading
close_run i s [] = ap (λ (j : ℕ). run s (j - 1) ∷ runs_from j shut []) (sym (add-zero i))
close_run i s (false ∷ m) = ap (λ (j : ℕ). run s (j - 1) ∷ runs_from j shut (false ∷ m)) (sym (add-zero i))
close_run i s (true ∷ m) =
    let e : suc i + leading itself m ≡ i + suc (leading itself m) = omega arith in
    close_run (suc i) s m ∙ ap (λ (j : ℕ). run s (j - 1) ∷ runs_from j shut (drop (leading itself m) m)) e

-- a run opens at a sample that is there
open_run : (i : ℕ) (m : List Bool) → 0 < leading itself m → runs_from i shut m ≡ runs_from i (since i) m
unfolding runs_from leading
open_run i [] h = let z : ⊥ = omega arith in absurd z
open_run i (false ∷ m) h = let z : ⊥ = omega arith in absurd z
open_run i (true ∷ m) h = refl

-- ---- the same of a mask and the byte v

module _ (v : ℕ) (mask : List ℕ) where
  abbrev is_v : ℕ → Bool
  is_v b = eqb b v

  -- the maximal runs from sample i on, where none is open
  abbrev rest : ℕ → List Run
  rest i = runs_from i shut (samples_are v (drop i mask))

  beyond_leading : (p : Bool → Bool) (i : ℕ) → drop (leading p (samples_are v (drop i mask))) (samples_are v (drop i mask)) ≡ samples_are v (drop (i + leading (λ b. p (eqb b v)) (drop i mask)) mask)
  unfolding samples_are
  beyond_leading p i =
      ap (λ (k : ℕ). drop k (map is_v (drop i mask))) (leading_map is_v p (drop i mask))
      ∙ drop_map is_v (leading (λ b. p (eqb b v)) (drop i mask)) (drop i mask)
      ∙ ap (map is_v) (drop-drop (leading (λ b. p (eqb b v)) (drop i mask)) i mask)

  -- a clear sample is passed
  pub passed : (i : ℕ) → i < length mask → eqb (get_or mask i 0) v ≡ false → rest i ≡ rest (i + 1)
  unfolding runs_from samples_are
  passed i h e =
      ap (λ (m : List ℕ). runs_from i shut (samples_are v m)) (drop-cons mask i 0 h)
      ∙ ap (λ (b : Bool). runs_from i shut (b ∷ samples_are v (drop (suc i) mask))) e
      ∙ ap rest (sym (add-one i))

  -- what the search for a run's end says
  pub record Stopped (i j : ℕ) : Type 0 where
    pub later : i < j
    pub in_row : j ≤ length mask
    pub left : rest i ≡ run i (j - 1) ∷ rest j

  pub stopped : (i j : ℕ) → i < length mask → get_or mask i 0 ≡ v → j ≡ i + 1 + leading is_v (drop (i + 1) mask) → Stopped i j
  unfolding samples_are
  stopped i j h g p =
      let n = leading is_v (drop i mask) in
      let b : n ≤ length mask - i = subst (λ (k : ℕ). n ≤ k) (length-drop i mask) (leading_length is_v (drop i mask)) in
      let q : n ≡ suc (leading is_v (drop (i + 1) mask)) = here is_v mask 0 i h ∙ ap (λ (t : Bool). cond t (suc (leading is_v (drop (i + 1) mask))) 0) (eq-eqb (get_or mask i 0) v g) in
      let e : j ≡ i + n = omega arith in
      let some : 0 < n = omega arith in
      let same : leading itself (samples_are v (drop i mask)) ≡ n = leading_map is_v itself (drop i mask) in
      record {
        later = omega arith;
        in_row = omega arith;
        left =
            open_run i (samples_are v (drop i mask)) (rw same some)
            ∙ close_run i i (samples_are v (drop i mask))
            ∙ ap (λ (k : ℕ). run i (i + k - 1) ∷ runs_from (i + k) shut (drop (leading itself (samples_are v (drop i mask))) (samples_are v (drop i mask)))) same
            ∙ ap (λ (m : List Bool). run i (i + n - 1) ∷ runs_from (i + n) shut m) (beyond_leading itself i)
            ∙ ap (λ (k : ℕ). run i (k - 1) ∷ rest k) (sym e);
      }

-- ---- what is left of a listing

module _ (l : Listing) (mask : List ℕ) where
  abbrev keep : List Run → List Run
  keep = filter (keeps l (length mask))

  pub left_clear : (i : ℕ) → i < length mask → eqb (get_or mask i 0) (byte_of l) ≡ false → runs_left l mask i ≡ runs_left l mask (i + 1)
  unfolding runs_left
  left_clear i h e = ap keep (passed (byte_of l) mask i h e)

  by_test : (i j : ℕ) (b : Bool) → Stopped (byte_of l) mask i j → keeps l (length mask) (run i (j - 1)) ≡ b → runs_left l mask i ≡ cond b (run i (j - 1) ∷ runs_left l mask j) (runs_left l mask j)
  unfolding runs_left filter
  by_test i j b s e = ap keep s.left ∙ ap (λ (t : Bool). cond t (run i (j - 1) ∷ runs_left l mask j) (runs_left l mask j)) e

  pub left_kept : (i j : ℕ) → Stopped (byte_of l) mask i j → keeps l (length mask) (run i (j - 1)) ≡ true → runs_left l mask i ≡ run i (j - 1) ∷ runs_left l mask j
  left_kept i j s e = by_test i j true s e

  pub left_passed : (i j : ℕ) → Stopped (byte_of l) mask i j → keeps l (length mask) (run i (j - 1)) ≡ false → runs_left l mask i ≡ runs_left l mask j
  left_passed i j s e = by_test i j false s e

  pub left_none : (i : ℕ) → length mask ≤ i → runs_left l mask i ≡ []
  unfolding runs_left filter runs_from samples_are
  left_none i h = ap (λ (m : List ℕ). keep (runs_from i shut (samples_are (byte_of l) m))) (drop_of_length-le mask h)

  -- a run that is found, and the end of the row
  pub next_some : (from i j : ℕ) → from ≤ i → Stopped (byte_of l) mask i j → runs_left l mask i ≡ runs_left l mask from → keeps l (length mask) (run i (j - 1)) ≡ true → IsNextRun l mask from i j
  next_some from i j h s w e = record { within = s.in_row; onward = omega (arith, s.later); some = s.later; left = sym w ∙ left_kept i j s e }

  pub next_none : (from i : ℕ) → length mask ≤ i → runs_left l mask i ≡ runs_left l mask from → runs_left l mask from ≡ []
  next_none from i h w = sym w ∙ left_none i h

-- ---- the whole listing

filter_all : {A : Type 0} (p : A → Bool) (l : List A) → ((x : A) → p x ≡ true) → filter p l ≡ l
unfolding filter
filter_all p [] h = refl
filter_all p (x ∷ l) h = ap (λ (b : Bool). cond b (x ∷ filter p l) (filter p l)) (h x) ∙ ap (λ (t : List _). x ∷ t) (filter_all p l h)

pub violations_left : (mask : List ℕ) → runs_left Violations mask 0 ≡ violation_runs mask
unfolding runs_left violation_runs keeps byte_of
violations_left mask = filter_all (keeps Violations (length mask)) (runs_from 0 shut (samples_are 1 mask)) (λ x. refl)

pub visibility_left : (mask : List ℕ) → runs_left Visibility mask 0 ≡ visibility_runs mask
unfolding runs_left visibility_runs keeps byte_of
visibility_left mask = refl

-- ---- starts, sample by sample

module _ (mask : List ℕ) where
  -- whether sample k is marked
  abbrev pub marked_at : ℕ → Bool
  marked_at k = eqb (get_or mask k 0) 1

  -- how many runs of marked samples start from sample i on, where i is not the first
  pub starts_left : ℕ → ℕ
  starts_left i = starts (marked_at (i - 1)) (samples_are 1 (drop i mask))

  here_or_on : (i : ℕ) (b : Bool) → i < length mask → starts b (samples_are 1 (drop i mask)) ≡ flag (marked_at i && not b) + starts_left (i + 1)
  unfolding starts samples_are starts_left
  here_or_on i b h =
      let e : i ≡ i + 1 - 1 = omega arith in
      rw (add-one i, drop-cons mask i 0) (ap (λ (k : ℕ). flag (marked_at i && not b) + starts (marked_at k) (samples_are 1 (drop (suc i) mask))) (e ∙ ap (λ (k : ℕ). k - 1) (add-one i)))

  pub starts_none : length mask ≡ 0 → 0 ≡ starts false (samples_are 1 mask)
  unfolding starts samples_are
  starts_none h = let n : length mask ≤ 0 = omega arith in sym (ap (λ (l : List ℕ). starts false (samples_are 1 l)) (drop_of_length-le mask n))

  pub starts_first : 0 < length mask → starts false (samples_are 1 mask) ≡ flag (marked_at 0 && true) + starts_left 1
  starts_first h = here_or_on 0 false h

  pub starts_next : (i : ℕ) → i < length mask → starts_left i ≡ flag (marked_at i && not (marked_at (i - 1))) + starts_left (i + 1)
  unfolding starts_left
  starts_next i h = here_or_on i (marked_at (i - 1)) h

  pub starts_end : (i : ℕ) → length mask ≤ i → starts_left i ≡ 0
  unfolding starts samples_are starts_left
  starts_end i h = ap (λ (l : List ℕ). starts (marked_at (i - 1)) (samples_are 1 l)) (drop_of_length-le mask h)
