-- What the pass over a journal's lines asks: a line's test, the lines one by one, and the tables that it fills. Assumes nothing.
use mathlib.Core.Path.{◌≡◌, refl, sym, ap, ap₂, ◌∙◌}
use mathlib.Core.Bool.{Bool, true, false, ◌&&◌, ◌||◌, not, cond, false≢true}
use mathlib.Core.List.{List}
use Prim.Native.Nat.{ℕ, ◌+◌, ◌*◌, ◌≤◌, ◌<◌, min}
use native.Mathlib.Omega.{arith}
use native.Mathlib.Numerals.{add-one}
use Rattle.std.specs.Str.{bytes_eq}
use Rattle.std.proofs.lemmas.Slice.Eq.{bytes_eq-Decides}
use Rattle.std.proofs.lemmas.List.{ext_get_or}
use lib.ListN.{length, get_or, take, set, replicate, get_or-replicate, length-replicate, length-set}
use Rattle.std.specs.Prelude.{Option, Some, None, Ok, Err}
use Rattle.std.specs.Option.{ok_or}
use Rattle.buffers.specs.declared.reasons.Refusal.{Refusal}
use lib.Seq.{get_or-set_same, get_or-set_other, get_or-take, length-take-le}
use lib.Dec.{ltb, eqb}
use borrow.Author.Tests.{ltb-true, eqb-true, eqb-false, eq-eqb, not-true}
use Rattle.buffers.proofs.Tests.{and_left, and_right, and_both}
use Rattle.buffers.proofs.Ranges.{any_step, all_next, all_stop, all_iff, sum_next, sum_mono, sum_same}
use Rattle.buffers.proofs.Distinct.{distinct_le}
use Rattle.solar_roll.specs.Plan.{most_cells}
use Rattle.roll_sweep.specs.Sweep.{chunks}
use Rattle.journal.specs.Lines.{header_length, line_start, chunk_at, mask_at, probes_at, has_chunk, held_mask, held_probes}
use Rattle.journal.specs.Right.{whole_lines, agree, possible, framed, line_at, fits, line_fits, line_right, lines_right, right}
use Rattle.journal.specs.Pass.{most_chunks, checked_of, Blank, Tables}
use Rattle.journal.specs.declared.line.Line.{Line}
use Rattle.journal.proofs.Text.{value_lt}

-- ---- one line

-- the numbers of line l
abbrev pub numbers_at : List ℕ → ℕ → Line
numbers_at b l = record { chunk = chunk_at b l; mask = mask_at b l; probes = probes_at b l }

-- a line fits if it is framed, and its numbers fit
pub line_fits_is : (n k : ℕ) (b : List ℕ) (l : ℕ)
    → line_fits n k b l ≡ (framed b l && (ltb (chunk_at b l) (chunks n) && possible n k (chunk_at b l) (mask_at b l) (probes_at b l)))
unfolding fits line_at
line_fits_is n k b l = go (framed b l)
  where
    go : (t : Bool) → fits n k (cond t (Some (numbers_at b l)) None) ≡ (t && (ltb (chunk_at b l) (chunks n) && possible n k (chunk_at b l) (mask_at b l) (probes_at b l)))
    go true = refl
    go false = refl

-- a line that fits names a chunk that exists, so one of 16,384
pub fits_exists : (n k : ℕ) (b : List ℕ) (l : ℕ) → line_fits n k b l ≡ true → chunk_at b l < chunks n
fits_exists n k b l e =
    let p : Bool = possible n k (chunk_at b l) (mask_at b l) (probes_at b l) in
    ltb-true _ _ (and_left (ltb (chunk_at b l) (chunks n)) p (and_right (framed b l) (ltb (chunk_at b l) (chunks n) && p) (sym (line_fits_is n k b l) ∙ e)))

-- line l as it is read, by its bytes
pub line_unframed : (b : List ℕ) (l : ℕ) → framed b l ≡ false → ◌≡◌ {A = Option Line} None (line_at b l)
unfolding line_at
line_unframed b l e = ap (λ (t : Bool). cond t (Some (numbers_at b l)) None) (sym e)

pub line_read : (b : List ℕ) (l c m p : ℕ) → framed b l ≡ true
    → c ≡ chunk_at b l → m ≡ mask_at b l → p ≡ probes_at b l → ◌≡◌ {A = Option Line} (Some (record { chunk = c; mask = m; probes = p })) (line_at b l)
unfolding line_at
line_read b l c m p e f g k =
    (λ i. Some (record { chunk = f i; mask = g i; probes = k i }))
    ∙ ap (λ (t : Bool). cond t (Some (numbers_at b l)) None) (sym e)

-- what was read: no line, or the numbers of line l
pub none_unfit : (n k : ℕ) (b : List ℕ) (l : ℕ) → ◌≡◌ {A = Option Line} None (line_at b l) → line_fits n k b l ≡ false
unfolding fits
none_unfit n k b l e = ap (fits n k) (sym e)

pub some_read : (b : List ℕ) (l : ℕ) (line : Line) → Some line ≡ line_at b l → line ≡ numbers_at b l
unfolding line_at
some_read b l line e = go (framed b l) e
  where
    go : (t : Bool) → Some line ≡ cond t (Some (numbers_at b l)) None → line ≡ numbers_at b l
    go true f = cc
    go false f = cc

pub chunks_le : (n : ℕ) → n ≤ most_cells → chunks n ≤ most_chunks
unfolding chunks
chunks_le n h = omega arith

-- and so does a line that was read
pub chunk_within : (n k : ℕ) (b : List ℕ) (l : ℕ) (line : Line) → n ≤ most_cells → Some line ≡ line_at b l → line_fits n k b l ≡ true → line.chunk < most_chunks
chunk_within n k b l line h e f =
    omega (arith, ap (λ (x : Line). x.chunk) (some_read b l line e), fits_exists n k b l f, chunks_le n h)

-- ---- the lines, one by one

module _ (n k : ℕ) (b : List ℕ) where
  pub lines_zero : lines_right n k b 0 ≡ true
  unfolding lines_right
  lines_zero = refl

  pub lines_next : (l : ℕ) → lines_right n k b l ≡ true → line_fits n k b l ≡ true → has_chunk b l (chunk_at b l) ≡ false → lines_right n k b (l + 1) ≡ true
  unfolding lines_right line_right
  lines_next l r f h = all_next l (line_right n k b) r (and_both (line_fits n k b l) (not (has_chunk b l (chunk_at b l))) f (ap not h))

  pub lines_unfit : (l m : ℕ) → l < m → line_fits n k b l ≡ false → lines_right n k b m ≡ false
  unfolding lines_right line_right
  lines_unfit l m h f = all_stop m (line_right n k b) l h (ap (λ (t : Bool). t && not (has_chunk b l (chunk_at b l))) f)

  pub lines_repeat : (l m : ℕ) → l < m → line_fits n k b l ≡ true → has_chunk b l (chunk_at b l) ≡ true → lines_right n k b m ≡ false
  unfolding lines_right line_right
  lines_repeat l m h f r = all_stop m (line_right n k b) l h (ap₂ (λ (t u : Bool). t && not u) f r)

  -- of right lines, each fits, and none repeats a chunk: so they are as many as chunks at most
  pub lines_few : (l : ℕ) → lines_right n k b l ≡ true → l ≤ chunks n
  unfolding lines_right line_right has_chunk
  lines_few l e =
      let r : (j : ℕ) → j < l → line_right n k b j ≡ true = (all_iff l (line_right n k b)).0 e in
      distinct_le (chunks n) (chunk_at b) l
      (λ j h. fits_exists n k b j (and_left (line_fits n k b j) (not (has_chunk b j (chunk_at b j))) (r j h)))
      (λ j h. not-true (has_chunk b j (chunk_at b j)) (and_right (line_fits n k b j) (not (has_chunk b j (chunk_at b j))) (r j h)))

-- ---- the sum of probes: each has 8 digits

pub probes_zero : (b : List ℕ) → held_probes b 0 ≡ 0
unfolding held_probes
probes_zero b = refl

pub probes_next : (b : List ℕ) (l : ℕ) → held_probes b (l + 1) ≡ held_probes b l + probes_at b l
unfolding held_probes
probes_next b l = sum_next l (probes_at b)

pub probes_lt : (b : List ℕ) (l : ℕ) → probes_at b l < 4294967296
unfolding probes_at
probes_lt b l = value_lt b (line_start l + 24) 8

pub probes_fit : (b : List ℕ) (l : ℕ) → held_probes b l ≤ l * 4294967296
unfolding held_probes
probes_fit b l = omega (arith, sum_mono l (probes_at b) (λ j. 4294967296) (λ j h. omega (arith, probes_lt b j)), sum_same l 4294967296)

-- ---- the tables

pub tables_zero : (b : List ℕ) (seen : List Bool) (masks : List ℕ) → Blank seen masks → Tables b 0 seen masks
unfolding has_chunk held_mask
tables_zero b seen masks e =
    record {
      flags =
          record {
            count = ap length e.no_flag ∙ length-replicate {A = Bool} most_chunks false;
            chunk = λ c h. ap (λ (s : List Bool). get_or s c false) e.no_flag ∙ get_or-replicate {A = Bool} most_chunks c false false h;
          };
      words = ap length e.no_mask ∙ length-replicate {A = ℕ} most_chunks 0;
      mask = λ c h. ap (λ (s : List ℕ). get_or s c 0) e.no_mask ∙ get_or-replicate {A = ℕ} most_chunks c 0 0 h;
    }

-- what stands at place c once v is stored at place d
stored : {A : Type 0} (s : List A) (d : ℕ) (v : A) (c : ℕ) (x : A) → d < length s → get_or (set s d v) c x ≡ cond (eqb d c) v (get_or s c x)
stored s d v c x h = go (eqb d c) refl
  where
    go : (t : Bool) → eqb d c ≡ t → get_or (set s d v) c x ≡ cond t v (get_or s c x)
    go true q = ap (λ (y : ℕ). get_or (set s d v) y x) (sym (eqb-true d c q)) ∙ get_or-set_same s d v x h
    go false q = get_or-set_other s d c v x (λ z. eqb-false d c q (sym z))

flag_or : (a t : Bool) → cond t true a ≡ (a || t)
flag_or true true = refl
flag_or true false = refl
flag_or false true = refl
flag_or false false = refl

pub tables_next : (b : List ℕ) (seen : List Bool) (masks : List ℕ) (l d m : ℕ) → d ≡ chunk_at b l → m ≡ mask_at b l → d < most_chunks
    → Tables b l seen masks → Tables b (l + 1) (set seen d true) (set masks d m)
unfolding has_chunk held_mask
tables_next b seen masks l d m e f h t =
    record {
      flags =
          record {
            count = length-set seen d true ∙ t.flags.count;
            chunk = λ c k.
                stored seen d true c false (omega (arith, t.flags.count))
                ∙ ap₂ (λ (x : ℕ) (y : Bool). cond (eqb x c) true y) e (t.flags.chunk c k)
                ∙ flag_or (has_chunk b l c) (eqb (chunk_at b l) c)
                ∙ sym (any_step l (λ j. eqb (chunk_at b j) c));
          };
      words = length-set masks d m ∙ t.words;
      mask = λ c k.
          stored masks d m c 0 (omega (arith, t.words))
          ∙ (λ i. cond (eqb (e i) c) (f i) (t.mask c k i))
          ∙ ap (λ (x : ℕ). held_mask b x c) (sym (add-one l));
    }

-- ---- the answer, with what holds of a journal that is right

pub is_wrong : (t : Bool) (p : ℕ) (X : Type 0) → t ≡ false → (◌≡◌ {A = Option ℕ} None (checked_of t p)) × (t ≡ true → X)
is_wrong t p X e = (ap (λ (u : Bool). checked_of u p) (sym e), λ h. absurd (false≢true (sym e ∙ h)))

pub is_right : (t : Bool) (p q : ℕ) (X : Type 0) → t ≡ true → q ≡ p → X → (Some q ≡ checked_of t p) × (t ≡ true → X)
is_right t p q X e f x = (ap₂ checked_of (sym e) f, λ h. x)

-- back from the answer, where a journal that is not right is refused
pub told_wrong : (t : Bool) (p : ℕ) (r : Option ℕ) (e f : Refusal) → r ≡ checked_of t p → Err f ≡ ok_or r e → (t ≡ false) × (f ≡ e)
told_wrong t p r e f h g = go t (g ∙ ap (λ (o : Option ℕ). ok_or o e) h)
  where
    go : (t : Bool) → Err f ≡ ok_or (checked_of t p) e → (t ≡ false) × (f ≡ e)
    go true z = (cc, cc)
    go false z = (refl, cc)

pub told_right : (t : Bool) (p q : ℕ) (r : Option ℕ) (e : Refusal) → r ≡ checked_of t p → Ok q ≡ ok_or r e → (t ≡ true) × (q ≡ p)
told_right t p q r e h g = go t (g ∙ ap (λ (o : Option ℕ). ok_or o e) h)
  where
    go : (t : Bool) → Ok q ≡ ok_or (checked_of t p) e → (t ≡ true) × (q ≡ p)
    go true z = (refl, cc)
    go false z = (cc, cc)

-- the tables keep their length
pub blank_length : {A : Type 0} (a : A) (t blank : List A) → length t ≡ most_chunks → blank ≡ replicate most_chunks a → length t ≡ length blank
blank_length a t blank n e = n ∙ sym (ap length e ∙ length-replicate most_chunks a)

-- ---- a whole journal: its header, and its lines

-- the first m bytes of two buffers, compared as a whole and byte by byte
pub first_bytes : (b h : List ℕ) (m : ℕ) → m ≤ length b → m ≤ length h → bytes_eq (take m b) (take m h) ≡ agree b h m
unfolding agree
first_bytes b h m p q = go (agree b h m) refl
  where
    equal : agree b h m ≡ true → take m b ≡ take m h
    equal e =
        ext_get_or 0 (take m b) (take m h) (length-take-le m b p ∙ sym (length-take-le m h q))
        (λ k l.
        let g : k < m = omega (arith, length-take-le m b p) in
        get_or-take m b k 0 g ∙ eqb-true (get_or b k 0) (get_or h k 0) ((all_iff m (λ j. eqb (get_or b j 0) (get_or h j 0))).0 e k g) ∙ sym (get_or-take m h k 0 g))

    back : take m b ≡ take m h → agree b h m ≡ true
    back e =
        (all_iff m (λ j. eqb (get_or b j 0) (get_or h j 0))).1
        (λ k g. eq-eqb (get_or b k 0) (get_or h k 0) (sym (get_or-take m b k 0 g) ∙ ap (λ (x : List ℕ). get_or x k 0) e ∙ get_or-take m h k 0 g))

    go : (t : Bool) → agree b h m ≡ t → bytes_eq (take m b) (take m h) ≡ t
    go true e = (bytes_eq-Decides (take m b) (take m h)).1 (equal e)
    go false e = is_false (bytes_eq (take m b) (take m h)) (λ f. false≢true (sym e ∙ back ((bytes_eq-Decides (take m b) (take m h)).0 f)))
      where
        is_false : (t : Bool) → (t ≡ true → ⊥) → t ≡ false
        is_false true f = absurd (f refl)
        is_false false f = refl

module _ (n k : ℕ) (h b : List ℕ) (u m : ℕ) (e : m ≡ min u header_length) where
  pub header_differs : agree b h m ≡ false → right n k h b u ≡ false
  unfolding right
  header_differs f = ap (λ (t : Bool). t && lines_right n k b (whole_lines u)) (ap (agree b h) (sym e) ∙ f)

  pub header_agrees : agree b h m ≡ true → right n k h b u ≡ lines_right n k b (whole_lines u)
  unfolding right
  header_agrees f = ap (λ (t : Bool). t && lines_right n k b (whole_lines u)) (ap (agree b h) (sym e) ∙ f)
