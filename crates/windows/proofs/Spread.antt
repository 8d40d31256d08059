-- The expansion, time by time: what its loops ask. In order: windows from number j on; the order of the times; the mask, of which a part is
-- written and the rest is to come. Assumes nothing.
use Rattle.std.proofs.Common.{◌≡◌, ℕ, zero, suc, ◌+◌, ◌<◌, ◌≤◌, Bool, true, false, cond, not, ◌&&◌, List, [], ◌∷◌, ◌++◌, length, get_or, drop, ℤ, pos, sym, refl, ap, ◌∙◌, subst, append_assoc, append-nil, add-one, arith, drop_of_length-le, drop-cons}
use lib.Signed.{lt_z}
use Rattle.std.specs.Ordering.{int_cmp, is_le}
use Rattle.std.specs.List.{IsAllAdjacentAnswer, IsEachAdjacentAnswer}
use Rattle.std.proofs.lemmas.Int.{ints}
use Rattle.buffers.specs.Ranges.{flag}
use Rattle.buffers.proofs.Tests.{and_false}
use Rattle.windows.specs.Expand.{Span, span, spans, in_order, skip, in_first, expanded_in_order, in_some, expanded_reordered}

length_spans : (F L : List ℤ) → length L ≡ length F → length (spans F L) ≡ length L
unfolding spans
length_spans [] [] e = refl
length_spans [] (l ∷ L) e = let z : ⊥ = omega arith in absurd z
length_spans (f ∷ F) [] e = let z : ⊥ = omega arith in absurd z
length_spans (f ∷ F) (l ∷ L) e = ap suc (length_spans F L (omega arith))

at_suc : (F L : List ℤ) (j : ℕ) → length L ≡ length F → j < length L → drop j (spans F L) ≡ span (get_or F j (pos 0)) (get_or L j (pos 0)) ∷ drop (suc j) (spans F L)
unfolding spans
at_suc [] [] j e h = let z : ⊥ = omega arith in absurd z
at_suc [] (l ∷ L) j e h = let z : ⊥ = omega arith in absurd z
at_suc (f ∷ F) [] j e h = let z : ⊥ = omega arith in absurd z
at_suc (f ∷ F) (l ∷ L) zero e h = refl
at_suc (f ∷ F) (l ∷ L) (suc j) e h = at_suc F L j (omega arith) (omega arith)

module _ (F L : List ℤ) (e : length L ≡ length F) (j : ℕ) where
  -- window j, and those after it
  pub spans_at : j < length L → drop j (spans F L) ≡ span (get_or F j (pos 0)) (get_or L j (pos 0)) ∷ drop (j + 1) (spans F L)
  spans_at h = at_suc F L j e h ∙ ap (λ (k : ℕ). span (get_or F j (pos 0)) (get_or L j (pos 0)) ∷ drop k (spans F L)) (sym (add-one j))

  pub spans_end : length L ≤ j → drop j (spans F L) ≡ []
  spans_end h = let k : length (spans F L) ≤ j = rw (length_spans F L e) h in drop_of_length-le (spans F L) k

  module _ (t : ℤ) where
    pub skip_on : j < length L → lt_z (get_or L j (pos 0)) t ≡ true → skip t (drop j (spans F L)) ≡ skip t (drop (j + 1) (spans F L))
    unfolding skip
    skip_on h b = ap (skip t) (spans_at h) ∙ ap (λ (x : Bool). cond x (skip t (drop (j + 1) (spans F L))) (span (get_or F j (pos 0)) (get_or L j (pos 0)) ∷ drop (j + 1) (spans F L))) b

    pub skip_stop : j < length L → lt_z (get_or L j (pos 0)) t ≡ false → skip t (drop j (spans F L)) ≡ drop j (spans F L)
    unfolding skip
    skip_stop h b =
        ap (skip t) (spans_at h) ∙ ap (λ (x : Bool). cond x (skip t (drop (j + 1) (spans F L))) (span (get_or F j (pos 0)) (get_or L j (pos 0)) ∷ drop (j + 1) (spans F L))) b
        ∙ sym (spans_at h)

    pub skip_end : length L ≤ j → skip t (drop j (spans F L)) ≡ drop j (spans F L)
    unfolding skip
    skip_end h = ap (skip t) (spans_end h) ∙ sym (spans_end h)

    pub first_none : length L ≤ j → false ≡ in_first t (drop j (spans F L))
    unfolding in_first
    first_none h = sym (ap (in_first t) (spans_end h))

    pub first_at : (x y : Bool) → j < length L → lt_z t (get_or F j (pos 0)) ≡ x → lt_z (get_or L j (pos 0)) t ≡ y → in_first t (drop j (spans F L)) ≡ (not x && not y)
    unfolding in_first
    first_at x y h a b =
        ap (in_first t) (spans_at h)
        ∙ ap (λ (z : Bool). not z && not (lt_z (get_or L j (pos 0)) t)) a ∙ ap (λ (z : Bool). not x && not z) b

    pub some_none : length L ≤ j → false ≡ in_some t (drop j (spans F L))
    unfolding in_some
    some_none h = sym (ap (in_some t) (spans_end h))

    pub some_at : (x y : Bool) → j < length L → lt_z t (get_or F j (pos 0)) ≡ x → lt_z (get_or L j (pos 0)) t ≡ y
        → in_some t (drop j (spans F L)) ≡ cond x false (cond y (in_some t (drop (j + 1) (spans F L))) true)
    unfolding in_some
    some_at x y h a b =
        ap (in_some t) (spans_at h)
        ∙ ap (λ (z : Bool). cond z false (cond (lt_z (get_or L j (pos 0)) t) (in_some t (drop (j + 1) (spans F L))) true)) a
        ∙ ap (λ (z : Bool). cond x false (cond z (in_some t (drop (j + 1) (spans F L))) true)) b

    pub some_before : j < length L → lt_z t (get_or F j (pos 0)) ≡ true → in_some t (drop j (spans F L)) ≡ false
    unfolding in_some
    some_before h a =
        ap (in_some t) (spans_at h)
        ∙ ap (λ (z : Bool). cond z false (cond (lt_z (get_or L j (pos 0)) t) (in_some t (drop (j + 1) (spans F L))) true)) a

-- ---- the order of the times
-- of the times from number i on
module _ (ts : List ℤ) (i : ℕ) where
  pub order_step : i + 1 < length ts → in_order (drop i ts) ≡ (not (lt_z (get_or ts (i + 1) (pos 0)) (get_or ts i (pos 0))) && in_order (drop (i + 1) ts))
  unfolding in_order
  order_step h =
      let e1 : drop i ts ≡ get_or ts i (pos 0) ∷ drop (i + 1) ts = drop-cons ts i (pos 0) (omega arith) ∙ ap (λ (k : ℕ). get_or ts i (pos 0) ∷ drop k ts) (sym (add-one i)) in
      let e2 : drop (i + 1) ts ≡ get_or ts (i + 1) (pos 0) ∷ drop (suc (i + 1)) ts = drop-cons ts (i + 1) (pos 0) h in
      ap in_order (e1 ∙ ap (λ (l : List ℤ). get_or ts i (pos 0) ∷ l) e2)
      ∙ ap (λ (l : List ℤ). not (lt_z (get_or ts (i + 1) (pos 0)) (get_or ts i (pos 0))) && in_order l) (sym e2)

  pub order_end : i < length ts → length ts ≤ i + 1 → in_order (drop i ts) ≡ true
  unfolding in_order
  order_end h k = let q : length ts ≤ suc i = omega arith in ap in_order (drop-cons ts i (pos 0) h ∙ ap (λ (l : List ℤ). get_or ts i (pos 0) ∷ l) (drop_of_length-le ts q))

  pub order_bad : i + 1 < length ts → lt_z (get_or ts (i + 1) (pos 0)) (get_or ts i (pos 0)) ≡ true → in_order (drop i ts) ≡ false
  order_bad h e = order_step h ∙ ap (λ (b : Bool). not b && in_order (drop (i + 1) ts)) e

  pub order_good : i + 1 < length ts → lt_z (get_or ts (i + 1) (pos 0)) (get_or ts i (pos 0)) ≡ false → in_order (drop i ts) ≡ in_order (drop (i + 1) ts)
  order_good h e = order_step h ∙ ap (λ (b : Bool). not b && in_order (drop (i + 1) ts)) e

not_after : (x y : ℤ) → is_le (int_cmp x y) ≡ not (lt_z y x)
not_after x y = grind (arith, ints)

-- each time is not after the next, by the index of the first of both
in_order_yes : (ts : List ℤ) → ((k : ℕ) (d : ℤ) → suc k < length ts → is_le (int_cmp (get_or ts k d) (get_or ts (suc k) d)) ≡ true) → in_order ts ≡ true
unfolding in_order
in_order_yes [] h = refl
in_order_yes (t ∷ []) h = refl
in_order_yes (t ∷ u ∷ ts) h =
    ap (λ (b : Bool). b && in_order (u ∷ ts)) (sym (not_after t u) ∙ h 0 (pos 0) (omega arith))
    ∙ in_order_yes (u ∷ ts) (λ k d q. h (suc k) d (omega arith))

in_order_no : (ts : List ℤ) (k : ℕ) → suc k < length ts → ((d : ℤ) → is_le (int_cmp (get_or ts k d) (get_or ts (suc k) d)) ≡ false) → in_order ts ≡ false
unfolding in_order
in_order_no [] k q h = let z : ⊥ = omega arith in absurd z
in_order_no (t ∷ []) k q h = let z : ⊥ = omega arith in absurd z
in_order_no (t ∷ u ∷ ts) zero q h = ap (λ (b : Bool). b && in_order (u ∷ ts)) (sym (not_after t u) ∙ h (pos 0))
in_order_no (t ∷ u ∷ ts) (suc k) q h = ap (λ (b : Bool). not (lt_z u t) && b) (in_order_no (u ∷ ts) k (omega arith) h) ∙ and_false (not (lt_z u t))

pub sorted_in_order : (ts : List ℤ) (r : Bool) → IsEachAdjacentAnswer (λ x y b. is_le (int_cmp x y) ≡ b) ts r → IsAllAdjacentAnswer (λ x y b. is_le (int_cmp x y) ≡ b) ts r → r ≡ in_order ts
sorted_in_order ts true h g = sym (in_order_yes ts (λ k d q. subst (λ (j : ℕ). is_le (int_cmp (get_or ts k d) (get_or ts j d)) ≡ true) (add-one k) (h k d (omega arith)).1))
sorted_in_order ts false h g = sym (in_order_no ts g.0 (omega (arith, g.1)) (λ d. subst (λ (j : ℕ). is_le (int_cmp (get_or ts g.0 d) (get_or ts j d)) ≡ false) (add-one g.0) (g.2 d)))

-- ---- the mask, sample by sample: `done` is written, the rest is to come
module _ (ts : List ℤ) (ws : List Span) (i : ℕ) (done total : List ℕ) where
  next_time : i < length ts → drop i ts ≡ get_or ts i (pos 0) ∷ drop (i + 1) ts
  next_time h = drop-cons ts i (pos 0) h ∙ ap (λ (k : ℕ). get_or ts i (pos 0) ∷ drop k ts) (sym (add-one i))

  pub in_order_on : (j j' r : ℕ) → i < length ts → drop j' ws ≡ skip (get_or ts i (pos 0)) (drop j ws) → r ≡ flag (in_first (get_or ts i (pos 0)) (drop j' ws))
      → done ++ expanded_in_order (drop i ts) (drop j ws) ≡ total → (done ++ r ∷ []) ++ expanded_in_order (drop (i + 1) ts) (drop j' ws) ≡ total
  unfolding expanded_in_order
  in_order_on j j' r h e p w =
      append_assoc done (r ∷ []) (expanded_in_order (drop (i + 1) ts) (drop j' ws))
      ∙ ap (λ (b : ℕ). done ++ b ∷ expanded_in_order (drop (i + 1) ts) (drop j' ws)) p
      ∙ ap (λ (v : List Span). done ++ flag (in_first (get_or ts i (pos 0)) v) ∷ expanded_in_order (drop (i + 1) ts) v) e
      ∙ ap (λ (l : List ℤ). done ++ expanded_in_order l (drop j ws)) (sym (next_time h))
      ∙ w

  pub in_order_end : (j : ℕ) → length ts ≤ i → done ++ expanded_in_order (drop i ts) (drop j ws) ≡ total → done ≡ total
  unfolding expanded_in_order
  in_order_end j h w = sym (append-nil done) ∙ ap (λ (l : List ℤ). done ++ expanded_in_order l (drop j ws)) (sym (drop_of_length-le ts h)) ∙ w

  pub reordered_on : (r : ℕ) → i < length ts → r ≡ flag (in_some (get_or ts i (pos 0)) ws) → done ++ expanded_reordered (drop i ts) ws ≡ total → (done ++ r ∷ []) ++ expanded_reordered (drop (i + 1) ts) ws ≡ total
  unfolding expanded_reordered
  reordered_on r h p w =
      append_assoc done (r ∷ []) (expanded_reordered (drop (i + 1) ts) ws)
      ∙ ap (λ (b : ℕ). done ++ b ∷ expanded_reordered (drop (i + 1) ts) ws) p
      ∙ ap (λ (l : List ℤ). done ++ expanded_reordered l ws) (sym (next_time h))
      ∙ w

  pub reordered_end : length ts ≤ i → done ++ expanded_reordered (drop i ts) ws ≡ total → done ≡ total
  unfolding expanded_reordered
  reordered_end h w = sym (append-nil done) ∙ ap (λ (l : List ℤ). done ++ expanded_reordered l ws) (sym (drop_of_length-le ts h)) ∙ w
