-- Laws of ranges, in order: sums, tables, all below, any below, an element of a list. Of each, what a loop from 0 up asks: before its first
-- turn (`-zero`), after one turn more (`-next`), where it leaves early (`-stop`). Assumes nothing.
use mathlib.Core.Path.{◌≡◌, refl, sym, ap, ap₂, ◌∙◌, subst}
use mathlib.Core.Logic.{◌↔◌}
use mathlib.Core.Bool.{Bool, true, false, cond, ◌&&◌, ◌||◌, or-true, or-false}
use mathlib.Core.List.{List, [], ◌∷◌, ◌++◌, append_assoc, append-nil}
use Prim.Native.Nat.{ℕ, zero, suc, ◌+◌, ◌-◌, ◌*◌, ◌≤◌, ◌<◌}
use native.Mathlib.Nat.{not-suc-le-zero, add-zero, add-suc}
use native.Mathlib.Numerals.{add-one}
use native.Mathlib.Omega.{arith}
use lib.Dec.{eqb}
use lib.Arith.{lt_of_le-ne}
use lib.ListN.{length, get_or, take, drop, length-append, get_or-append, drop_of_length-le}
use lib.Seq.{get_or_at, drop-cons, take_at, drop-append-add}
use borrow.Author.Tests.{eqb-true, eqb-false, ne_eqb}
use Rattle.buffers.specs.Ranges.{sum, tab, all_below, any_below, any}
use Rattle.buffers.proofs.Tests.{and_left, and_right, and_both, and_stop, or_none, or_left, or_right}

-- below n + 1: below n, or n itself
pub below_suc : (P : ℕ → Type 0) (n : ℕ) → ((k : ℕ) → k < n → P k) → P n → (k : ℕ) → k < suc n → P k
below_suc P n f e k h = go (eqb k n) refl
  where
    go : (t : Bool) → eqb k n ≡ t → P k
    go true q = subst P (sym (eqb-true k n q)) e
    go false q = f k (lt_of_le-ne (omega arith) (eqb-false k n q))

-- ---- sums

pub sum_zero : (f : ℕ → ℕ) → sum 0 f ≡ 0
unfolding sum
sum_zero f = refl

pub sum_next : (n : ℕ) (f : ℕ → ℕ) → sum (n + 1) f ≡ sum n f + f n
unfolding sum
sum_next n f = ap (λ (k : ℕ). sum k f) (add-one n)

pub sum_ext : (n : ℕ) (f g : ℕ → ℕ) → ((k : ℕ) → k < n → f k ≡ g k) → sum n f ≡ sum n g
unfolding sum
sum_ext zero f g h = refl
sum_ext (suc n) f g h = ap₂ (λ (a b : ℕ). a + b) (sum_ext n f g (λ k l. h k (omega arith))) (h n (omega arith))

pub sum_plus : (n : ℕ) (f g : ℕ → ℕ) → sum n (λ k. f k + g k) ≡ sum n f + sum n g
unfolding sum
sum_plus zero f g = refl
sum_plus (suc n) f g = omega (arith, sum_plus n f g)

-- the same number each time
pub sum_same : (n a : ℕ) → sum n (λ k. a) ≡ n * a
unfolding sum
sum_same zero a = omega arith
sum_same (suc n) a = omega (arith, sum_same n a)

-- n + m terms: the first n, then m more
pub sum_add : (n m : ℕ) (f : ℕ → ℕ) → sum (n + m) f ≡ sum n f + sum m (λ k. f (n + k))
unfolding sum
sum_add n zero f = ap (λ (k : ℕ). sum k f) (add-zero n) ∙ sym (add-zero (sum n f))
sum_add n (suc m) f = ap (λ (k : ℕ). sum k f) (add-suc n m) ∙ omega (arith, sum_add n m f)

-- the terms of a table of a rows with b terms each, row by row
pub sum_rows : (a b : ℕ) (f : ℕ → ℕ) → sum (a * b) f ≡ sum a (λ i. sum b (λ j. f (i * b + j)))
unfolding sum
sum_rows zero b f = let e : 0 * b ≡ 0 = omega arith in ap (λ (n : ℕ). sum n f) e
sum_rows (suc a) b f =
    let e : suc a * b ≡ a * b + b = omega arith in
    ap (λ (n : ℕ). sum n f) e ∙ sum_add (a * b) b f ∙ ap (λ (n : ℕ). n + sum b (λ j. f (a * b + j))) (sum_rows a b f)

-- term by term at most, the sum is at most
pub sum_mono : (n : ℕ) (f g : ℕ → ℕ) → ((k : ℕ) → k < n → f k ≤ g k) → sum n f ≤ sum n g
unfolding sum
sum_mono zero f g h = omega arith
sum_mono (suc n) f g h = omega (arith, sum_mono n f g (λ k l. h k (omega arith)), h n (omega arith))

-- one term only: below m, none of which is c; below m, one of which is c
sum_none : (m c : ℕ) (f : ℕ → ℕ) → m ≤ c → sum m (λ d. cond (eqb c d) (f d) 0) ≡ 0
sum_none m c f h =
    sum_ext m (λ d. cond (eqb c d) (f d) 0) (λ d. 0) (λ d l. ap (λ (t : Bool). cond t (f d) 0) (ne_eqb c d (λ e. omega arith)))
    ∙ omega (arith, sum_same m 0)

pub sum_one : (m c : ℕ) (f : ℕ → ℕ) → c < m → sum m (λ d. cond (eqb c d) (f d) 0) ≡ f c
unfolding sum
sum_one zero c f h = absurd (not-suc-le-zero h)
sum_one (suc m) c f h = go (eqb c m) refl (sum_one m c f)
  where
    go : (t : Bool) → eqb c m ≡ t → (c < m → sum m (λ d. cond (eqb c d) (f d) 0) ≡ f c) → sum m (λ d. cond (eqb c d) (f d) 0) + cond t (f m) 0 ≡ f c
    go true e ih =
        let q : c ≡ m = eqb-true c m e in
        omega (arith, sum_none m c f (omega arith), ap f q)
    go false e ih = omega (arith, ih (lt_of_le-ne (omega arith) (eqb-false c m e)))

-- ---- tables

module _ {A : Type 0} where
  pub tab_next : (n : ℕ) (f : ℕ → A) → tab (n + 1) f ≡ tab n f ++ (f n ∷ [])
  unfolding tab
  tab_next n f = ap (λ (k : ℕ). tab k f) (add-one n)

  pub length_tab : (n : ℕ) (f : ℕ → A) → length (tab n f) ≡ n
  unfolding tab
  length_tab zero f = refl
  length_tab (suc n) f = simp length-append (omega (arith, length_tab n f))

  pub tab_ext : (n : ℕ) (f g : ℕ → A) → ((k : ℕ) → k < n → f k ≡ g k) → tab n f ≡ tab n g
  unfolding tab
  tab_ext zero f g h = refl
  tab_ext (suc n) f g h = ap₂ (λ (l : List A) (a : A). l ++ (a ∷ [])) (tab_ext n f g (λ k l. h k (omega arith))) (h n (omega arith))

  pub get_or_tab : (n : ℕ) (f : ℕ → A) (d : A) (i : ℕ) → i < n → get_or (tab n f) i d ≡ f i
  unfolding tab
  get_or_tab zero f d i h = absurd (not-suc-le-zero h)
  get_or_tab (suc n) f d i h =
      below_suc (λ k. get_or (tab n f ++ (f n ∷ [])) k d ≡ f k) n
      (λ k l. get_or-append (tab n f) (f n ∷ []) d k (omega (arith, length_tab n f)) ∙ get_or_tab n f d k l)
      (get_or_at (tab n f) (f n) [] d n (length_tab n f))
      i
      h

  -- n + m entries: the first n, then m more
  pub tab_add : (n m : ℕ) (f : ℕ → A) → tab (n + m) f ≡ tab n f ++ tab m (λ k. f (n + k))
  unfolding tab
  tab_add n zero f = ap (λ (k : ℕ). tab k f) (add-zero n) ∙ sym (append-nil (tab n f))
  tab_add n (suc m) f =
      ap (λ (k : ℕ). tab k f) (add-suc n m)
      ∙ ap (λ (l : List A). l ++ (f (n + m) ∷ [])) (tab_add n m f)
      ∙ append_assoc (tab n f) (tab m (λ k. f (n + k))) (f (n + m) ∷ [])

  -- m entries from place n on, of a longer table
  pub tab_part : (n m k : ℕ) (f : ℕ → A) → n + m ≤ k → take m (drop n (tab k f)) ≡ tab m (λ j. f (n + j))
  tab_part n m k f h =
      let r : ℕ = k - (n + m) in
      let e : k ≡ n + (m + r) = omega arith in
      let z : length (tab n f) + 0 ≡ n = omega (arith, length_tab n f) in
      let g : ℕ → A = λ j. f (n + j) in
      ap (λ (i : ℕ). take m (drop n (tab i f))) e
      ∙ ap (λ (t : List A). take m (drop n t)) (tab_add n (m + r) f)
      ∙ ap (λ (i : ℕ). take m (drop i (tab n f ++ tab (m + r) g))) (sym z)
      ∙ ap (take m) (drop-append-add (tab n f) (tab (m + r) g) 0)
      ∙ ap (take m) (tab_add m r g)
      ∙ take_at (tab m g) (tab r (λ j. g (m + j))) m (length_tab m g)

-- ---- all below

pub all_zero : (p : ℕ → Bool) → all_below 0 p ≡ true
unfolding all_below
all_zero p = refl

pub all_step : (n : ℕ) (p : ℕ → Bool) → all_below (n + 1) p ≡ (all_below n p && p n)
unfolding all_below
all_step n p = ap (λ (k : ℕ). all_below k p) (add-one n)

pub all_next : (n : ℕ) (p : ℕ → Bool) → all_below n p ≡ true → p n ≡ true → all_below (n + 1) p ≡ true
all_next n p h k = all_step n p ∙ and_both (all_below n p) (p n) h k

pub all_iff : (n : ℕ) (p : ℕ → Bool) → (all_below n p ≡ true) ↔ ((k : ℕ) → k < n → p k ≡ true)
unfolding all_below
all_iff zero p = (λ e k h. absurd (not-suc-le-zero h), λ f. refl)
all_iff (suc n) p = (
  λ e. below_suc (λ k. p k ≡ true) n ((all_iff n p).0 (and_left (all_below n p) (p n) e)) (and_right (all_below n p) (p n) e),
  λ f. and_both (all_below n p) (p n) ((all_iff n p).1 (λ k l. f k (omega arith))) (f n (omega arith)),
)

pub all_stop : (n : ℕ) (p : ℕ → Bool) (j : ℕ) → j < n → p j ≡ false → all_below n p ≡ false
unfolding all_below
all_stop zero p j h e = absurd (not-suc-le-zero h)
all_stop (suc n) p j h e = go (eqb j n) refl (all_stop n p j)
  where
    go : (t : Bool) → eqb j n ≡ t → (j < n → p j ≡ false → all_below n p ≡ false) → (all_below n p && p n) ≡ false
    go true q ih = and_stop (all_below n p) (p n) (ap p (sym (eqb-true j n q)) ∙ e)
    go false q ih = ap (λ (x : Bool). x && p n) (ih (lt_of_le-ne (omega arith) (eqb-false j n q)) e)

pub all_ext : (n : ℕ) (p q : ℕ → Bool) → ((k : ℕ) → k < n → p k ≡ q k) → all_below n p ≡ all_below n q
unfolding all_below
all_ext zero p q h = refl
all_ext (suc n) p q h = ap₂ (λ (a b : Bool). a && b) (all_ext n p q (λ k l. h k (omega arith))) (h n (omega arith))

-- ---- any below

pub any_zero : (p : ℕ → Bool) → any_below 0 p ≡ false
unfolding any_below
any_zero p = refl

pub any_step : (n : ℕ) (p : ℕ → Bool) → any_below (n + 1) p ≡ (any_below n p || p n)
unfolding any_below
any_step n p = ap (λ (k : ℕ). any_below k p) (add-one n)

pub any_found : (n : ℕ) (p : ℕ → Bool) (j : ℕ) → j < n → p j ≡ true → any_below n p ≡ true
unfolding any_below
any_found zero p j h e = absurd (not-suc-le-zero h)
any_found (suc n) p j h e = go (eqb j n) refl (any_found n p j)
  where
    go : (t : Bool) → eqb j n ≡ t → (j < n → p j ≡ true → any_below n p ≡ true) → (any_below n p || p n) ≡ true
    go true q ih = ap (λ (x : Bool). any_below n p || x) (ap p (sym (eqb-true j n q)) ∙ e) ∙ or-true (any_below n p)
    go false q ih = ap (λ (x : Bool). x || p n) (ih (lt_of_le-ne (omega arith) (eqb-false j n q)) e)

pub any_none : (n : ℕ) (p : ℕ → Bool) → ((k : ℕ) → k < n → p k ≡ false) → any_below n p ≡ false
unfolding any_below
any_none zero p f = refl
any_none (suc n) p f = ap₂ (λ (a b : Bool). a || b) (any_none n p (λ k l. f k (omega arith))) (f n (omega arith))

-- where none holds, each does not
pub any_clear : (n : ℕ) (p : ℕ → Bool) → any_below n p ≡ false → (k : ℕ) → k < n → p k ≡ false
unfolding any_below
any_clear zero p e k h = absurd (not-suc-le-zero h)
any_clear (suc n) p e k h = below_suc (λ k. p k ≡ false) n (any_clear n p (or_left (any_below n p) (p n) e)) (or_right (any_below n p) (p n) e) k h

pub any_ext : (n : ℕ) (p q : ℕ → Bool) → ((k : ℕ) → k < n → p k ≡ q k) → any_below n p ≡ any_below n q
unfolding any_below
any_ext zero p q h = refl
any_ext (suc n) p q h = ap₂ (λ (a b : Bool). a || b) (any_ext n p q (λ k l. h k (omega arith))) (h n (omega arith))

-- ---- an element of a list: a loop that looks for one. Before place i it has found none, so the rest decides

module _ {A : Type 0} (p : A → Bool) (l : List A) (d : A) (i : ℕ) where
  scan_here : i < length l → any p (drop i l) ≡ (p (get_or l i d) || any p (drop (i + 1) l))
  unfolding any
  scan_here h = rw (add-one i, drop-cons l i d)

  pub scan_next : i < length l → p (get_or l i d) ≡ false → any p (drop i l) ≡ any p l → any p (drop (i + 1) l) ≡ any p l
  scan_next h e w = ap (λ (b : Bool). b || any p (drop (i + 1) l)) (sym e) ∙ sym (scan_here h) ∙ w

  pub scan_stop : i < length l → p (get_or l i d) ≡ true → any p (drop i l) ≡ any p l → true ≡ any p l
  scan_stop h e w = ap (λ (b : Bool). b || any p (drop (i + 1) l)) (sym e) ∙ sym (scan_here h) ∙ w

  pub scan_end : length l ≤ i → any p (drop i l) ≡ any p l → false ≡ any p l
  unfolding any
  scan_end h w = ap (any p) (sym (drop_of_length-le l h)) ∙ w

-- the same of a loop that looks at every element, and keeps in b whether it has found one
module _ {A : Type 0} (p : A → Bool) (l : List A) (d : A) (i : ℕ) (b : Bool) where
  pub gather_hit : i < length l → p (get_or l i d) ≡ true → (b || any p (drop i l)) ≡ any p l → true ≡ any p l
  gather_hit h e w = sym (or-true b) ∙ ap (λ (x : Bool). b || x) (sym (scan_here p l d i h ∙ ap (λ (x : Bool). x || any p (drop (i + 1) l)) e)) ∙ w

  pub gather_miss : i < length l → p (get_or l i d) ≡ false → (b || any p (drop i l)) ≡ any p l → (b || any p (drop (i + 1) l)) ≡ any p l
  gather_miss h e w = ap (λ (x : Bool). b || x) (sym (scan_here p l d i h ∙ ap (λ (x : Bool). x || any p (drop (i + 1) l)) e)) ∙ w

  pub gather_end : length l ≤ i → (b || any p (drop i l)) ≡ any p l → b ≡ any p l
  unfolding any
  gather_end h w = sym (or-false b) ∙ ap (λ (m : List A). b || any p m) (sym (drop_of_length-le l h)) ∙ w

-- where no element has the property, none at any place has
pub any_get_or : {A : Type 0} (p : A → Bool) (l : List A) (d : A) (i : ℕ) → any p l ≡ false → i < length l → p (get_or l i d) ≡ false
unfolding any
any_get_or p [] d i e h = absurd (not-suc-le-zero h)
any_get_or p (x ∷ xs) d zero e h = or_left (p x) (any p xs) e
any_get_or p (x ∷ xs) d (suc i) e h = any_get_or p xs d i (or_right (p x) (any p xs) e) (omega arith)

-- none of a table's entries has the property
pub any_tab : {A : Type 0} (p : A → Bool) (n : ℕ) (f : ℕ → A) → ((k : ℕ) → k < n → p (f k) ≡ false) → any p (tab n f) ≡ false
unfolding any tab
any_tab p zero f h = refl
any_tab {A} p (suc n) f h = after (tab n f) (any_tab p n f (λ k l. h k (omega arith)))
  where
    after : (l : List A) → any p l ≡ false → any p (l ++ (f n ∷ [])) ≡ false
    after [] e = or_none (p (f n)) false (h n (omega arith)) refl
    after (x ∷ l) e = or_none (p x) (any p (l ++ (f n ∷ []))) (or_left (p x) (any p l) e) (after l (or_right (p x) (any p l) e))
