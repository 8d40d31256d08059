-- Laws of what a call leaves in a lent list: the first places filled, a text put at a place, a text put from the first place on. Assumes nothing.
use mathlib.Core.Path.{◌≡◌, refl, sym, ap, ap₂, ◌∙◌, subst}
use mathlib.Core.List.{List, [], ◌∷◌, ◌++◌, append_assoc, append-nil}
use Prim.Native.Nat.{ℕ, suc, ◌+◌, ◌-◌, ◌<◌, ◌≤◌}
use native.Mathlib.Nat.{add-zero, zero-add, le_of_eq}
use native.Mathlib.Omega.{arith}
use native.Mathlib.Numerals.{add-one}
use lib.ListN.{length, get_or, take, drop, set, length-append, length-drop, take-append-drop, drop_of_length-le, get_or-append}
use lib.Seq.{drop-cons, set_at, drop-append-add, drop-drop, take_at, length-take-le, get_or-append-add, get_or-take, get_or-drop, take-add, take_all}
use Rattle.buffers.specs.Ranges.{tab}
use Rattle.buffers.specs.Lent.{over, filled, put}
use Rattle.buffers.proofs.Ranges.{length_tab, get_or_tab, tab_next, tab_add, tab_ext}

-- ---- the first places filled: one store a turn

module _ {A : Type 0} (f : ℕ → A) where
  pub filled_zero : (l : List A) → l ≡ filled 0 f l
  unfolding filled tab
  filled_zero l = refl

  pub length_filled : (n : ℕ) (l : List A) → n ≤ length l → length (filled n f l) ≡ length l
  unfolding filled
  length_filled n l h = simp (length-append, length_tab, length-drop) (omega arith)

  pub filled_ext : (g : ℕ → A) (n : ℕ) (l : List A) → ((k : ℕ) → k < n → f k ≡ g k) → filled n f l ≡ filled n g l
  unfolding filled
  filled_ext g n l h = ap (λ (t : List A). t ++ drop n l) (tab_ext n f g h)

  -- a store of the next value
  pub filled_next : (n : ℕ) (l : List A) (v : A) → n < length l → v ≡ f n → set (filled n f l) n v ≡ filled (n + 1) f l
  unfolding filled tab
  filled_next n l v h e =
      rw (add-one, drop-cons l n (f n), e)
      (set_at (tab n f) _ (drop (suc n) l) (f n) n (length_tab n f) ∙ sym (append_assoc (tab n f) (f n ∷ []) (drop (suc n) l)))

  -- what was written once is written over
  pub filled_anew : (g : ℕ → A) (n m : ℕ) (l : List A) → n ≤ m → filled m g (filled n f l) ≡ filled m g l
  unfolding filled
  filled_anew g n m l h =
      let e : length (tab n f) + (m - n) ≡ m = simp length_tab (omega arith) in
      let i : n + (m - n) ≡ m = omega arith in
      ap (λ (t : List A). tab m g ++ t)
      (subst (λ (k : ℕ). drop k (tab n f ++ drop n l) ≡ drop m l) e
      (drop-append-add (tab n f) (drop n l) (m - n) ∙ drop-drop (m - n) n l ∙ ap (λ (k : ℕ). drop k l) i))

  pub filled_more : (n m : ℕ) (l : List A) → n ≤ m → filled m f (filled n f l) ≡ filled m f l
  filled_more = filled_anew f

  -- a loop in a loop: what the outer one wrote, m, seen by the inner one as its start
  pub filled_settled : (n : ℕ) (l m : List A) → m ≡ filled n f l → m ≡ filled n f m
  filled_settled n l m e = let h : n ≤ n = omega arith in e ∙ sym (filled_more n n l h) ∙ ap (λ (t : List A). filled n f t) (sym e)

  pub filled_chained : (n k : ℕ) (l m r : List A) → m ≡ filled n f l → r ≡ filled k f m → n ≤ k → r ≡ filled k f l
  filled_chained n k l m r e g h = g ∙ ap (λ (t : List A). filled k f t) e ∙ filled_more n k l h

  -- an element of the list: in the places that are filled, and beyond
  pub get_or_filled : (n : ℕ) (l : List A) (d : A) (k : ℕ) → k < n → get_or (filled n f l) k d ≡ f k
  unfolding filled
  get_or_filled n l d k h = get_or-append (tab n f) (drop n l) d k (omega (arith, length_tab n f)) ∙ get_or_tab n f d k h

  -- each value written, then each made from the one that stands
  pub filled_then : (g : ℕ → A → A) (n : ℕ) (d : A) (l m r : List A) → m ≡ filled n f l → r ≡ filled n (λ k. g k (get_or m k d)) m → r ≡ filled n (λ k. g k (f k)) l
  unfolding filled
  filled_then g n d l m r e h =
      let n≤n : n ≤ n = omega arith in
      let v : (k : ℕ) → k < n → g k (get_or m k d) ≡ g k (f k) = λ k i. ap (g k) (ap (λ (t : List A). get_or t k d) e ∙ get_or_filled n l d k i) in
      h
      ∙ ap (λ (t : List A). t ++ drop n m) (tab_ext n (λ k. g k (get_or m k d)) (λ k. g k (f k)) v)
      ∙ ap (λ (t : List A). filled n (λ k. g k (f k)) t) e
      ∙ filled_anew (λ k. g k (f k)) n n l n≤n

  pub get_or_filled_beyond : (n : ℕ) (l : List A) (d : A) (k : ℕ) → n ≤ k → get_or (filled n f l) k d ≡ get_or l k d
  unfolding filled
  get_or_filled_beyond n l d k h =
      let e : length (tab n f) + (k - n) ≡ k = omega (arith, length_tab n f) in
      let g : n + (k - n) ≡ k = omega arith in
      ap (λ (i : ℕ). get_or (tab n f ++ drop n l) i d) (sym e)
      ∙ get_or-append-add (tab n f) (drop n l) (k - n) d
      ∙ get_or-drop n l (k - n) d
      ∙ ap (λ (i : ℕ). get_or l i d) g

  pub take_filled : (n : ℕ) (l : List A) → take n (filled n f l) ≡ tab n f
  unfolding filled
  take_filled n l = take_at (tab n f) (drop n l) n (length_tab n f)

-- ---- a text put at a place

module _ {A : Type 0} where
  pub length_put : (i : ℕ) (t l : List A) → i + length t ≤ length l → length (put i t l) ≡ length l
  unfolding put
  length_put i t l h =
      length-append (take i l) (t ++ drop (i + length t) l)
      ∙ ap₂ (λ (a b : ℕ). a + b) (length-take-le i l (omega arith)) (length-append t (drop (i + length t) l))
      ∙ omega (arith, length-drop (i + length t) l)

  pub put_nil : (i : ℕ) (l : List A) → put i [] l ≡ l
  unfolding put
  put_nil i l = ap (λ (k : ℕ). take i l ++ drop k l) (add-zero i) ∙ take-append-drop i l

  -- one store
  pub put_one : (i : ℕ) (a : A) (l : List A) → i < length l → set l i a ≡ put i (a ∷ []) l
  unfolding put
  put_one i a l h =
      ap (λ (m : List A). set m i a) (sym (take-append-drop i l))
      ∙ ap (λ (m : List A). set (take i l ++ m) i a) (drop-cons l i a h)
      ∙ set_at (take i l) (get_or l i a) (drop (suc i) l) a i (length-take-le i l (omega arith))
      ∙ ap (λ (k : ℕ). take i l ++ (a ∷ drop k l)) (sym (add-one i))

  -- a text, and a text directly after it
  pub put_put : (i j : ℕ) (s t l : List A) → j ≡ i + length s → i + length s + length t ≤ length l → put j t (put i s l) ≡ put i (s ++ t) l
  unfolding put
  put_put i j s t l e h =
      let f : List A = take i l ++ s in
      let r : List A = drop (i + length s) l in
      let n : length f ≡ j = length-append (take i l) s ∙ ap (λ (k : ℕ). k + length s) (length-take-le i l (omega arith)) ∙ sym e in
      let whole : take i l ++ (s ++ r) ≡ f ++ r = sym (append_assoc (take i l) s r) in
      let back : take j (f ++ r) ≡ f = take_at f r j n in
      let m : i + length s + length t ≡ i + length (s ++ t) = omega (arith, length-append s t) in
      let rest : drop (j + length t) (f ++ r) ≡ drop (i + length (s ++ t)) l =
      ap (λ (k : ℕ). drop (k + length t) (f ++ r)) (sym n)
      ∙ drop-append-add f r (length t)
      ∙ drop-drop (length t) (i + length s) l
      ∙ ap (λ (k : ℕ). drop k l) m in
      ap (λ (m : List A). take j m ++ (t ++ drop (j + length t) m)) whole
      ∙ ap₂ (λ (a b : List A). a ++ (t ++ b)) back rest
      ∙ append_assoc (take i l) s (t ++ drop (i + length (s ++ t)) l)
      ∙ ap (λ (m : List A). take i l ++ m) (sym (append_assoc s t (drop (i + length (s ++ t)) l)))

  -- a text put into the tail that is lent from place i on
  pub put_tail : (i : ℕ) (t l : List A) → take i l ++ over t (drop i l) ≡ put i t l
  unfolding put over
  put_tail i t l = ap (λ (m : List A). take i l ++ (t ++ m)) (drop-drop (length t) i l)

  -- what is put at the first place, and at a place of the tail
  pub put_first : (t l : List A) → put 0 t l ≡ over t l
  unfolding put over
  put_first t l = ap (λ (k : ℕ). t ++ drop k l) (zero-add (length t))

  pub put_in_tail : (i j : ℕ) (t l : List A) → i ≤ length l → take i l ++ put j t (drop i l) ≡ put (i + j) t l
  unfolding put
  put_in_tail i j t l h =
      let e : i + (j + length t) ≡ i + j + length t = omega arith in
      sym (append_assoc (take i l) (take j (drop i l)) (t ++ drop (j + length t) (drop i l)))
      ∙ ap₂ (λ (a b : List A). a ++ (t ++ b)) (sym (take-add i j l)) (drop-drop (j + length t) i l ∙ ap (λ (k : ℕ). drop k l) e)

  -- the used part after a text was put directly behind it
  pub take_put : (i : ℕ) (t l : List A) → i + length t ≤ length l → take (i + length t) (put i t l) ≡ take i l ++ t
  unfolding put
  take_put i t l h =
      let n : length (take i l ++ t) ≡ i + length t = length-append (take i l) t ∙ ap (λ (k : ℕ). k + length t) (length-take-le i l (omega arith)) in
      ap (take (i + length t)) (sym (append_assoc (take i l) t (drop (i + length t) l)))
      ∙ take_at (take i l ++ t) (drop (i + length t) l) (i + length t) n

  -- an element of a list with t put at place i: before it, in it, after it
  module _ (i : ℕ) (t l : List A) (d : A) (h : i + length t ≤ length l) where
    front : length (take i l) ≡ i
    front = length-take-le i l (omega arith)

    pub get_or_before : (k : ℕ) → k < i → get_or (put i t l) k d ≡ get_or l k d
    unfolding put
    get_or_before k g = get_or-append (take i l) (t ++ drop (i + length t) l) d k (omega (arith, front)) ∙ get_or-take i l k d g

    pub get_or_inside : (k : ℕ) → k < length t → get_or (put i t l) (i + k) d ≡ get_or t k d
    unfolding put
    get_or_inside k g =
        ap (λ (n : ℕ). get_or (take i l ++ (t ++ drop (i + length t) l)) (n + k) d) (sym front)
        ∙ get_or-append-add (take i l) (t ++ drop (i + length t) l) k d
        ∙ get_or-append t (drop (i + length t) l) d k g

    pub get_or_after : (k : ℕ) → i + length t ≤ k → get_or (put i t l) k d ≡ get_or l k d
    unfolding put
    get_or_after k g =
        let p : List A = take i l ++ t in
        let n : length p ≡ i + length t = length-append (take i l) t ∙ omega (arith, front) in
        let e : k ≡ length p + (k - (i + length t)) = omega arith in
        let q : i + length t + (k - (i + length t)) ≡ k = omega arith in
        ap₂ (λ (a : List A) (m : ℕ). get_or a m d) (sym (append_assoc (take i l) t (drop (i + length t) l))) e
        ∙ get_or-append-add p (drop (i + length t) l) (k - (i + length t)) d
        ∙ get_or-drop (i + length t) l (k - (i + length t)) d
        ∙ ap (λ (m : ℕ). get_or l m d) q

-- a table put at a place, entry by entry
module _ {A : Type 0} (i : ℕ) (f : ℕ → A) (l : List A) where
  pub table_zero : l ≡ put i (tab 0 f) l
  unfolding tab
  table_zero = sym (put_nil i l)

  pub table_next : (k : ℕ) (v : A) → i + k < length l → v ≡ f k → set (put i (tab k f) l) (i + k) v ≡ put i (tab (k + 1) f) l
  table_next k v h e =
      let n : length (tab k f) ≡ k = length_tab k f in
      let m : length (put i (tab k f) l) ≡ length l = length_put i (tab k f) l (omega arith) in
      ap (set (put i (tab k f) l) (i + k)) e
      ∙ put_one (i + k) (f k) (put i (tab k f) l) (omega arith)
      ∙ put_put i (i + k) (tab k f) (f k ∷ []) l (ap (λ (j : ℕ). i + j) (sym n)) (omega arith)
      ∙ ap (λ (t : List A). put i t l) (sym (tab_next k f))

  pub length_table : (k : ℕ) → i + k ≤ length l → length (put i (tab k f) l) ≡ length l
  length_table k h = length_put i (tab k f) l (omega (arith, length_tab k f))

-- a text over the first places: one element more
module _ {A : Type 0} where
  pub over_nil : (l : List A) → l ≡ over [] l
  unfolding over
  over_nil l = refl

  pub length_over : (t l : List A) → length t ≤ length l → length (over t l) ≡ length l
  unfolding over
  length_over t l h = simp (length-append, length-drop) (omega arith)

  -- the text, read back
  pub take_over : (n : ℕ) (t l : List A) → length t ≡ n → take n (over t l) ≡ t
  unfolding over
  take_over n t l e = take_at t (drop (length t) l) n e

  -- a text over all places
  pub over_all : (t l : List A) → length l ≤ length t → over t l ≡ t
  unfolding over
  over_all t l h = ap (λ (m : List A). t ++ m) (drop_of_length-le l h) ∙ append-nil t

  pub over_next : (t l : List A) (k : ℕ) (v : A) → k ≡ length t → k < length l → set (over t l) k v ≡ over (t ++ (v ∷ [])) l
  unfolding over
  over_next t l k v e h =
      let n : length (t ++ (v ∷ [])) ≡ suc (length t) = length-append t (v ∷ []) ∙ add-one (length t) in
      let g : length t < length l = omega arith in
      ap (λ (m : List A). set (t ++ m) k v) (drop-cons l (length t) v g)
      ∙ set_at t (get_or l (length t) v) (drop (suc (length t)) l) v k (sym e)
      ∙ sym (append_assoc t (v ∷ []) (drop (suc (length t)) l))
      ∙ ap (λ (j : ℕ). (t ++ (v ∷ [])) ++ drop j l) (sym n)

  -- the same of a list s that has t over its first places, as a loop keeps it
  pub length_kept : (s t l : List A) → s ≡ over t l → length t ≤ length l → length s ≡ length l
  length_kept s t l e h = ap length e ∙ length_over t l h

  pub over_more : (s t l : List A) (k : ℕ) (v : A) → s ≡ over t l → length t ≡ k → k < length l → set s k v ≡ over (t ++ (v ∷ [])) l
  over_more s t l k v e p h = ap (λ (m : List A). set m k v) e ∙ over_next t l k v (sym p) h

  -- a text over the first places, and a text directly after it
  pub over_put : (j : ℕ) (s t l : List A) → j ≡ length s → j + length t ≤ length l → put j t (over s l) ≡ over (s ++ t) l
  over_put j s t l e h =
      ap (put j t) (sym (put_first s l))
      ∙ put_put 0 j s t l (e ∙ sym (zero-add (length s))) (omega arith)
      ∙ put_first (s ++ t) l

  -- the part from place i to the end, lent, and back with t over its first places
  pub part_lent : (i : ℕ) (l : List A) → take (length l - i) (drop i l) ≡ drop i l
  part_lent i l = take_all (length l - i) (drop i l) (le_of_eq (length-drop i l))

  pub over_part : (i : ℕ) (t l part : List A) → part ≡ over t (take (length l - i) (drop i l))
      → take i l ++ (part ++ drop (length l - i) (drop i l)) ≡ put i t l
  over_part i t l part e =
      let n : length (drop i l) ≤ length l - i = omega (arith, length-drop i l) in
      ap₂ (λ (x y : List A). take i l ++ (x ++ y)) (e ∙ ap (over t) (take_all (length l - i) (drop i l) n)) (drop_of_length-le (drop i l) n)
      ∙ ap (λ (m : List A). take i l ++ m) (append-nil (over t (drop i l)))
      ∙ put_tail i t l

-- the first places filled, several at a time
module _ {A : Type 0} (f : ℕ → A) where
  pub filled_over : (n : ℕ) (l : List A) → filled n f l ≡ over (tab n f) l
  unfolding filled over
  filled_over n l = ap (λ (k : ℕ). tab n f ++ drop k l) (sym (length_tab n f))

  pub filled_put : (n w : ℕ) (t l : List A) → t ≡ tab w (λ k. f (n + k)) → n + w ≤ length l → put n t (filled n f l) ≡ filled (n + w) f l
  filled_put n w t l e h =
      let m : length t ≡ w = ap length e ∙ length_tab w (λ k. f (n + k)) in
      ap (put n t) (filled_over n l)
      ∙ over_put n (tab n f) t l (sym (length_tab n f)) (omega arith)
      ∙ ap (λ (s : List A). over s l) (ap (λ (s : List A). tab n f ++ s) e ∙ sym (tab_add n w f))
      ∙ sym (filled_over (n + w) l)

  -- a part lent, and back with its first places filled
  pub filled_part : (i n : ℕ) (l part : List A) → part ≡ filled n f (take (length l - i) (drop i l))
      → take i l ++ (part ++ drop (length l - i) (drop i l)) ≡ put i (tab n f) l
  filled_part i n l part e = over_part i (tab n f) l part (e ∙ filled_over n (take (length l - i) (drop i l)))
