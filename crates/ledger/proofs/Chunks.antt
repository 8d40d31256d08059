-- Laws of the list L of chunks, in which a chunk joins the end: what is in it, that none is there twice, and the sum of any number over its
-- chunks. Assumes nothing.
use mathlib.Core.Path.{◌≡◌, refl, sym, ap, ap₂, ◌∙◌, subst}
use mathlib.Core.Bool.{Bool, true, false, ◌||◌, cond, false≢true, or-false, or-true, or_assoc}
use mathlib.Core.Logic.{◌↔◌}
use mathlib.Core.List.{List, [], ◌∷◌, ◌++◌, append_assoc, append-nil}
use Prim.Native.Nat.{ℕ, suc, ◌+◌, ◌-◌, ◌<◌}
use native.Mathlib.Nat.{add-zero}
use native.Mathlib.Numerals.{add-one}
use native.Mathlib.Omega.{arith}
use lib.ListN.{length, take, length-append}
use lib.Seq.{take_at}
use lib.Dec.{eqb}
use borrow.Author.Tests.{eqb-true, eqb-false, eq-eqb, ne_eqb}
use Rattle.buffers.specs.Ranges.{sum}
use Rattle.buffers.proofs.Ranges.{sum_ext, sum_plus, sum_same, sum_one, all_iff}
use Rattle.buffers.proofs.Tests.{or_left, or_right, or_here}
use Rattle.roll_sweep.specs.Sweep.{Sweep, cells, chunks}
use Rattle.journal.specs.Lines.{line_of}
use Rattle.ledger.specs.Ledger.{lines_of, is_in, are_in}
use Rattle.ledger.specs.Demand3.{Exist, Distinct}

-- a list is empty, or a list with one more at its end
pub from_end : (P : List ℕ → Type 0) → P [] → ((L : List ℕ) (c : ℕ) → P L → P (L ++ (c ∷ []))) → (L : List ℕ) → P L
from_end P nil next L = go [] L nil
  where
    go : (F L : List ℕ) → P F → P (F ++ L)
    go F [] p = subst P (sym (append-nil F)) p
    go F (c ∷ L) p = subst P (append_assoc F (c ∷ []) L) (go (F ++ (c ∷ [])) L (next F c p))

module _ (L : List ℕ) (c : ℕ) where
  pub length_end : length (L ++ (c ∷ [])) ≡ suc (length L)
  length_end = length-append L (c ∷ []) ∙ add-one (length L)

  -- the last taken back
  pub without_last : take (length (L ++ (c ∷ [])) - 1) (L ++ (c ∷ [])) ≡ L
  without_last = let e : length L ≡ length (L ++ (c ∷ [])) - 1 = omega (arith, length_end) in take_at L (c ∷ []) _ e

pub lines_end : (s : Sweep) (L : List ℕ) (c : ℕ) → lines_of s (L ++ (c ∷ [])) ≡ lines_of s L ++ line_of s c
unfolding lines_of
lines_end s [] c = append-nil (line_of s c)
lines_end s (d ∷ L) c = ap (λ (t : List ℕ). line_of s d ++ t) (lines_end s L c) ∙ sym (append_assoc (line_of s d) (lines_of s L) (line_of s c))

pub in_end : (d : ℕ) (L : List ℕ) (c : ℕ) → is_in d (L ++ (c ∷ [])) ≡ (is_in d L || eqb c d)
unfolding is_in
in_end d [] c = or-false (eqb c d)
in_end d (e ∷ L) c = ap (λ (t : Bool). eqb e d || t) (in_end d L c) ∙ sym (or_assoc (eqb e d) (is_in d L) (eqb c d))

-- all of them
pub in_all : (m : ℕ) (L : List ℕ) → are_in m L ≡ true → (d : ℕ) → d < m → is_in d L ≡ true
unfolding are_in
in_all m L h = (all_iff m (λ c. is_in c L)).0 h

-- ---- chunks that exist, none twice

pub record Good (s : Sweep) (L : List ℕ) : Type 0 where
  pub exist : Exist s L
  pub distinct : Distinct L

eqb_comm : (a b : ℕ) → eqb a b ≡ eqb b a
eqb_comm a b = go (eqb b a) refl
  where
    go : (t : Bool) → eqb b a ≡ t → eqb a b ≡ t
    go true e = eq-eqb a b (sym (eqb-true b a e))
    go false e = ne_eqb a b (λ q. eqb-false b a e (sym q))

-- what is in L is in L with c at its end, and so is c
in_before : (d : ℕ) (L : List ℕ) (c : ℕ) → is_in d L ≡ true → is_in d (L ++ (c ∷ [])) ≡ true
in_before d L c h = in_end d L c ∙ or_here (is_in d L) (eqb c d) h

in_here : (L : List ℕ) (c : ℕ) → is_in c (L ++ (c ∷ [])) ≡ true
in_here L c = in_end c L c ∙ ap (λ (t : Bool). is_in c L || t) (eq-eqb c c refl) ∙ or-true (is_in c L)

distinct_end : (L : List ℕ) (c : ℕ) → (Distinct (L ++ (c ∷ []))) ↔ (Distinct L × (is_in c L ≡ false))
unfolding is_in
distinct_end [] c = (λ h. (tt, refl), λ h. (refl, tt))
distinct_end (d ∷ L) c = (
  (λ h.
      let e : is_in d L || eqb c d ≡ false = sym (in_end d L c) ∙ h.0 in
      let r = (distinct_end L c).0 h.1 in
      ((or_left (is_in d L) (eqb c d) e, r.0), ap₂ (λ (x y : Bool). x || y) (eqb_comm d c ∙ or_right (is_in d L) (eqb c d) e) r.1)),
  (λ h.
      let e : eqb c d ≡ false = eqb_comm c d ∙ or_left (eqb d c) (is_in c L) h.1 in
      (in_end d L c ∙ ap₂ (λ (x y : Bool). x || y) h.0.0 e, (distinct_end L c).1 (h.0.1, or_right (eqb d c) (is_in c L) h.1))),
)

module _ (s : Sweep) where
  pub good_nil : Good s []
  unfolding is_in
  good_nil = record { exist = λ c h. absurd (false≢true h); distinct = tt }

  module _ (L : List ℕ) (c : ℕ) where
    pub good_before : Good s (L ++ (c ∷ [])) → Good s L
    good_before g = record { exist = λ d h. g.exist d (in_before d L c h); distinct = ((distinct_end L c).0 g.distinct).0 }

    pub good_last : Good s (L ++ (c ∷ [])) → c < chunks (cells s)
    good_last g = g.exist c (in_here L c)

    pub good_new : Good s (L ++ (c ∷ [])) → is_in c L ≡ false
    good_new g = ((distinct_end L c).0 g.distinct).1

    pub good_end : Good s L → c < chunks (cells s) → is_in c L ≡ false → Good s (L ++ (c ∷ []))
    good_end g h e = record { exist = λ d q. go d (is_in d L) refl (sym (in_end d L c) ∙ q); distinct = (distinct_end L c).1 (g.distinct, e) }
      where
        go : (d : ℕ) (t : Bool) → is_in d L ≡ t → is_in d L || eqb c d ≡ true → d < chunks (cells s)
        go d true q r = g.exist d q
        go d false q r = subst (λ (n : ℕ). n < chunks (cells s)) (eqb-true c d (ap (λ (t : Bool). t || eqb c d) (sym q) ∙ r)) h

-- ---- sums over L, of any number

pub sum_over : (ℕ → ℕ) → List ℕ → ℕ
sum_over f [] = 0
sum_over f (c ∷ L) = f c + sum_over f L

pub over_nil : (f : ℕ → ℕ) → sum_over f [] ≡ 0
unfolding sum_over
over_nil f = refl

pub over_end : (f : ℕ → ℕ) (L : List ℕ) (c : ℕ) → sum_over f (L ++ (c ∷ [])) ≡ sum_over f L + f c
unfolding sum_over
over_end f [] c = omega arith
over_end f (d ∷ L) c = omega (arith, over_end f L c)

-- a one for each chunk of L
pub over_ones : (L : List ℕ) → sum_over (λ c. 1) L ≡ length L
unfolding sum_over
over_ones [] = refl
over_ones (c ∷ L) = omega (arith, over_ones L)

-- either, where not both
either : (x y : Bool) (n : ℕ) → (x ≡ true → y ≡ false) → cond (x || y) n 0 ≡ cond x n 0 + cond y n 0
either true true n h = absurd (false≢true (sym (h refl)))
either true false n h = sym (add-zero n)
either false true n h = omega arith
either false false n h = refl

-- where none of L is twice, and all are below m: the sum over L is the sum over the numbers below m that are in L
pub sum_over_lem : (m : ℕ) (f : ℕ → ℕ) (L : List ℕ) → ((c : ℕ) → is_in c L ≡ true → c < m) → Distinct L → sum_over f L ≡ sum m (λ d. cond (is_in d L) (f d) 0)
unfolding sum_over is_in
sum_over_lem m f [] b g = omega (arith, sum_same m 0)
sum_over_lem m f (c ∷ L) b g =
    ap₂ (λ (x y : ℕ). x + y) (sym (sum_one m c f (b c (or_here (eqb c c) (is_in c L) (eq-eqb c c refl))))) (sum_over_lem m f L (λ d h. b d (ap (λ (t : Bool). eqb c d || t) h ∙ or-true (eqb c d))) g.1)
    ∙ sym (sum_plus m (λ d. cond (eqb c d) (f d) 0) (λ d. cond (is_in d L) (f d) 0))
    ∙ sum_ext m _ (λ d. cond (is_in d (c ∷ L)) (f d) 0)
    (λ d l. sym (either (eqb c d) (is_in d L) (f d) (λ e. ap (λ (x : ℕ). is_in x L) (sym (eqb-true c d e)) ∙ g.0)))

-- where each number below m is in L: the sum over all of them
pub sum_all : (m : ℕ) (f : ℕ → ℕ) (L : List ℕ) → ((c : ℕ) → is_in c L ≡ true → c < m) → Distinct L → are_in m L ≡ true → sum_over f L ≡ sum m f
sum_all m f L b g h =
    sum_over_lem m f L b g ∙ sum_ext m (λ d. cond (is_in d L) (f d) 0) f (λ d l. ap (λ (t : Bool). cond t (f d) 0) (in_all m L h d l))
