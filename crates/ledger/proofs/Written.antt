-- What the journal's tests and readings say of a journal that begins with the header and the lines of a list L of chunks that exist, none twice: all
-- of L's lines, and a journal that ends in a remnant. One line read back is the journal's Written. Assumes nothing.
use mathlib.Core.Path.{◌≡◌, refl, sym, ap, ap₂, ◌∙◌}
use mathlib.Core.Bool.{Bool, true, false, ◌||◌, cond, not, false≢true, or-false}
use mathlib.Core.List.{List, [], ◌∷◌, ◌++◌, append_assoc}
use Prim.Native.Nat.{ℕ, suc, ◌+◌, ◌-◌, ◌*◌, ◌%◌, ◌<◌, min}
use native.Mathlib.Omega.{arith}
use lib.ListN.{length, get_or, take, length-append, get_or-append}
use lib.Seq.{get_or-take, length-take-le}
use lib.Dec.{eqb, eqb-suc-zero}
use borrow.Author.Tests.{lt-ltb, le-ltb, eq-eqb, eqb-true}
use Rattle.buffers.proofs.Ranges.{all_iff}
use Rattle.buffers.proofs.Tests.{and_both}
use Rattle.roll_sweep.specs.Sweep.{Sweep, cells, chunk_mask, chunk_probes}
use Rattle.journal.specs.Lines.{line_length, header_length, line_of, line_start, has_chunk, held_mask, held_probes}
use Rattle.journal.specs.Right.{whole_lines, torn, agree, line_right, lines_right, right}
use Rattle.journal.proofs.Written.{SweepFacts, length_line, LineAt, read_line, line_right_lem}
use Rattle.ledger.specs.Ledger.{lines_of, is_empty, is_in}
use Rattle.ledger.proofs.Chunks.{from_end, length_end, lines_end, in_end, Good, good_before, good_last, good_new, sum_over, over_nil, over_end}

-- ---- the header and the lines of L, with any bytes q after them

abbrev pub front : Sweep → List ℕ → List ℕ
front s L = s.header ++ lines_of s L

pub length_lines : (s : Sweep) (L : List ℕ) → length (lines_of s L) ≡ line_length * length L
unfolding lines_of
length_lines s [] = refl
length_lines s (c ∷ L) = simp (length-append, length_line) (omega (arith, length_lines s L))

pub length_front : (s : Sweep) → SweepFacts s → (L : List ℕ) → length (front s L) ≡ header_length + line_length * length L
length_front s a L = length-append s.header (lines_of s L) ∙ omega (arith, a.header, length_lines s L)

-- the last line, split off
pub front_end : (s : Sweep) (L : List ℕ) (c : ℕ) (q : List ℕ) → front s (L ++ (c ∷ [])) ++ q ≡ front s L ++ (line_of s c ++ q)
front_end s L c q = ap (λ (t : List ℕ). s.header ++ t ++ q) (lines_end s L c) ∙ simp append_assoc

module _ (s : Sweep) (a : SweepFacts s) where
  -- L's last line, read
  module _ (L : List ℕ) (c : ℕ) (q : List ℕ) (g : Good s (L ++ (c ∷ []))) where
    last_line : LineAt s (front s L ++ (line_of s c ++ q)) (length L) c
    unfolding line_start
    last_line = read_line s a c (length L) (front s L) q (good_last s L c g) (length_front s a L)

    -- the whole, and the count of its lines
    split : {A : Type 0} (f : List ℕ → ℕ → A) → f (front s (L ++ (c ∷ [])) ++ q) (length (L ++ (c ∷ []))) ≡ f (front s L ++ (line_of s c ++ q)) (suc (length L))
    split f = ap₂ f (front_end s L c q) (length_end L c)

  pub has_front : (L q : List ℕ) → Good s L → (d : ℕ) → has_chunk (front s L ++ q) (length L) d ≡ is_in d L
  unfolding has_chunk is_in
  has_front =
      from_end (λ L. (q : List ℕ) → Good s L → (d : ℕ) → has_chunk (front s L ++ q) (length L) d ≡ is_in d L)
      (λ q g d. refl)
      (λ L c ih q g d.
      split L c q g (λ b l. has_chunk b l d)
      ∙ ap₂ (λ (x : Bool) (y : ℕ). x || eqb y d) (ih (line_of s c ++ q) (good_before s L c g) d) (last_line L c q g).chunk
      ∙ sym (in_end d L c))

  pub probes_front : (L q : List ℕ) → Good s L → held_probes (front s L ++ q) (length L) ≡ sum_over (chunk_probes s) L
  unfolding held_probes
  probes_front =
      from_end (λ L. (q : List ℕ) → Good s L → held_probes (front s L ++ q) (length L) ≡ sum_over (chunk_probes s) L)
      (λ q g. sym (over_nil (chunk_probes s)))
      (λ L c ih q g.
      split L c q g held_probes
      ∙ ap₂ (λ (x y : ℕ). x + y) (ih (line_of s c ++ q) (good_before s L c g)) (last_line L c q g).probes
      ∙ sym (over_end (chunk_probes s) L c))

  pub mask_front : (d : ℕ) (L q : List ℕ) → Good s L → is_in d L ≡ true → held_mask (front s L ++ q) (length L) d ≡ chunk_mask s d
  unfolding held_mask is_in
  mask_front d =
      from_end (λ L. (q : List ℕ) → Good s L → is_in d L ≡ true → held_mask (front s L ++ q) (length L) d ≡ chunk_mask s d)
      (λ q g h. absurd (false≢true h))
      (λ L c ih q g h.
      let n = last_line L c q g in
      split L c q g (λ b l. held_mask b l d)
      ∙ ap₂ (λ (x y : ℕ). cond (eqb x d) y (held_mask (front s L ++ (line_of s c ++ q)) (length L) d)) n.chunk n.mask
      ∙ pick L c q (eqb c d) refl (sym (in_end d L c) ∙ h) (ih (line_of s c ++ q) (good_before s L c g)))
    where
      pick : (L : List ℕ) (c : ℕ) (q : List ℕ) (t : Bool) → eqb c d ≡ t → is_in d L || t ≡ true
          → (is_in d L ≡ true → held_mask (front s L ++ (line_of s c ++ q)) (length L) d ≡ chunk_mask s d)
          → cond t (chunk_mask s c) (held_mask (front s L ++ (line_of s c ++ q)) (length L) d) ≡ chunk_mask s d
      pick L c q true e k ih = ap (chunk_mask s) (eqb-true c d e)
      pick L c q false e k ih = ih (sym (or-false (is_in d L)) ∙ k)

  line_new : (L : List ℕ) (c : ℕ) (q : List ℕ) → Good s (L ++ (c ∷ [])) → line_right (cells s) s.samples (front s L ++ (line_of s c ++ q)) (length L) ≡ true
  line_new L c q g =
      line_right_lem s a (front s L ++ (line_of s c ++ q)) (length L) c (last_line L c q g) (good_last s L c g)
      (has_front L (line_of s c ++ q) (good_before s L c g) c ∙ good_new s L c g)

  pub right_front : (L q : List ℕ) → Good s L → lines_right (cells s) s.samples (front s L ++ q) (length L) ≡ true
  unfolding lines_right
  right_front =
      from_end (λ L. (q : List ℕ) → Good s L → lines_right (cells s) s.samples (front s L ++ q) (length L) ≡ true)
      (λ q g. refl)
      (λ L c ih q g.
      split L c q g (lines_right (cells s) s.samples)
      ∙ and_both _ _ (ih (line_of s c ++ q) (good_before s L c g)) (line_new L c q g))

-- ---- a journal is right: the header, lines and less than a line more; or a beginning of the header. `q` is what lies beyond it

module _ (s : Sweep) (a : SweepFacts s) where
  agree_all : (b h : List ℕ) (k : ℕ) → ((i : ℕ) → i < k → get_or b i 0 ≡ get_or h i 0) → agree b h k ≡ true
  unfolding agree
  agree_all b h k f = (all_iff k (λ j. eqb (get_or b j 0) (get_or h j 0))).1 (λ i l. eq-eqb _ _ (f i l))

  -- the mark is on: L's lines, and a remnant r
  module _ (L r : List ℕ) (h : length r < line_length) where
    pub used_on : length (front s L ++ r) ≡ header_length + line_length * length L + length r
    used_on = length-append (front s L) r ∙ omega (arith, length_front s a L)

    pub whole_on : whole_lines (length (front s L ++ r)) ≡ length L
    unfolding whole_lines
    whole_on = omega (arith, used_on)

    pub torn_on : torn (length (front s L ++ r)) ≡ not (is_empty r)
    unfolding torn
    torn_on = ap₂ (λ (x y : Bool). x || not y) (le-ltb (length (front s L ++ r)) header_length (omega (arith, used_on))) (rest r (omega (arith, used_on)))
      where
        rest : (t : List ℕ) → (length (front s L ++ r) - header_length) % line_length ≡ length t → eqb ((length (front s L ++ r) - header_length) % line_length) 0 ≡ is_empty t
        rest [] e = eq-eqb _ _ e
        rest (x ∷ t) e = ap (λ (n : ℕ). eqb n 0) e ∙ eqb-suc-zero (length t)

    pub right_on : (q : List ℕ) → Good s L → right (cells s) s.samples s.header (front s L ++ r ++ q) (length (front s L ++ r)) ≡ true
    unfolding right
    right_on q g =
        let e : front s L ++ r ++ q ≡ front s L ++ (r ++ q) = append_assoc (front s L) r q in
        let f : front s L ++ r ++ q ≡ s.header ++ (lines_of s L ++ (r ++ q)) = simp append_assoc in
        and_both _ _
        (agree_all (front s L ++ r ++ q) s.header (min (length (front s L ++ r)) header_length) (λ i l. ap (λ (b : List ℕ). get_or b i 0) f ∙ get_or-append s.header (lines_of s L ++ (r ++ q)) 0 i (omega (arith, a.header))))
        (ap₂ (λ (b : List ℕ) (n : ℕ). lines_right (cells s) s.samples b n) e whole_on ∙ right_front s a L (r ++ q) g)

  -- the mark is off: a proper beginning of the header
  module _ (k : ℕ) (h : k < header_length) where
    pub used_off : length (take k s.header) ≡ k
    used_off = length-take-le k s.header (omega (arith, a.header))

    pub whole_off : whole_lines (length (take k s.header)) ≡ 0
    unfolding whole_lines
    whole_off = omega (arith, used_off)

    pub torn_off : torn (length (take k s.header)) ≡ true
    unfolding torn
    torn_off = ap (λ (x : Bool). x || not (eqb ((length (take k s.header) - header_length) % line_length) 0)) (lt-ltb (length (take k s.header)) header_length (omega (arith, used_off)))

    pub right_off : (q : List ℕ) → right (cells s) s.samples s.header (take k s.header ++ q) (length (take k s.header)) ≡ true
    unfolding right
    right_off q =
        and_both _ _
        (agree_all (take k s.header ++ q) s.header (min (length (take k s.header)) header_length) (λ i l. get_or-append (take k s.header) q 0 i (omega arith) ∙ get_or-take k s.header i 0 (omega (arith, used_off))))
        (ap (lines_right (cells s) s.samples (take k s.header ++ q)) whole_off)
