-- What a loop that writes digits from the last to the first asks, and a line written field by field. Assumes nothing.
use mathlib.Core.Path.{◌≡◌, refl, sym, ap, ap₂, ◌∙◌, subst}
use mathlib.Core.List.{List, [], ◌∷◌, ◌++◌, append_assoc, append-nil}
use Prim.Native.Nat.{ℕ, suc, ◌+◌, ◌-◌, ◌/◌, ◌%◌, ◌≤◌, ◌<◌}
use native.Mathlib.Omega.{arith}
use lib.ListN.{length, get_or, take, drop, set, length-append, length-drop, length-set}
use lib.Seq.{drop-cons, set-append_left, take_at, get_or_at, get_or-take, take-take, take-length, drop-length, take-suc-set, take-set-lt, length-take-le, append_snoc, drop-drop}
use Rattle.buffers.specs.Lent.{over, put}
use Rattle.buffers.proofs.Lent.{length_over, length_kept, over_more, over_put}
use Rattle.journal.specs.Hex.{hex_digit, hex_text}
use Rattle.journal.specs.Lines.{line_length, header_length, line_text}
use Rattle.journal.specs.Header.{header_text}
use Rattle.journal.proofs.Text.{length_hex, length_part}

-- ---- a text written over a list of its length, from its end

-- `o` with the text t, of which only what stands from index j on is written yet
abbrev written_from : List ℕ → List ℕ → ℕ → List ℕ
written_from o t j = take j o ++ drop j t

module _ (o t : List ℕ) (h : length t ≡ length o) where
  from_end : written_from o t (length o) ≡ o
  from_end =
      ap₂ (λ (x y : List ℕ). x ++ y) (take-length o) (ap (λ (n : ℕ). drop n t) (sym h) ∙ drop-length t)
      ∙ append-nil o

  length_from : (j : ℕ) → j ≤ length o → length (written_from o t j) ≡ length o
  length_from j l =
      length-append (take j o) (drop j t)
      ∙ ap (λ (n : ℕ). n + length (drop j t)) (length-take-le j o l)
      ∙ omega (arith, length-drop j t)

  -- one byte more
  from_next : (j : ℕ) → suc j ≤ length o → set (written_from o t (suc j)) j (get_or t j 0) ≡ written_from o t j
  from_next j l =
      let r : List ℕ = drop (suc j) t in
      let i : j < length (take (suc j) o) = omega (arith, length-take-le (suc j) o l) in
      set-append_left (take (suc j) o) r j (get_or t j 0) i
      ∙ ap (λ (y : List ℕ). y ++ r)
      (sym (take-set-lt (suc j) o j (get_or t j 0) (omega arith))
      ∙ take-suc-set o j (get_or t j 0) (omega arith))
      ∙ append_snoc (take j o) (get_or t j 0) r
      ∙ ap (λ (y : List ℕ). take j o ++ y) (sym (drop-cons t j 0 (omega arith)))

-- the digits that are left to write are those of a smaller number
digits_left : (w x j v : ℕ) → suc j ≤ w → take (suc j) (hex_text w x) ≡ hex_text (suc j) v
    → (get_or (hex_text w x) j 0 ≡ hex_digit (v % 16)) × (take j (hex_text w x) ≡ hex_text j (v / 16))
unfolding hex_text
digits_left w x j v h e =
    let n : length (hex_text j (v / 16)) ≡ j = length_hex j (v / 16) in (
      sym (get_or-take (suc j) (hex_text w x) j 0 (omega arith)) ∙ ap (λ (l : List ℕ). get_or l j 0) e ∙ get_or_at (hex_text j (v / 16)) (hex_digit (v % 16)) [] 0 j n,
      sym (take-take j (suc j) (hex_text w x) (omega arith)) ∙ ap (take j) e ∙ take_at (hex_text j (v / 16)) (hex_digit (v % 16) ∷ []) j n,
    )

-- ---- the loop's invariant, before it, after a turn and after it: of x in as many digits as o has places, all from the j-th on are written, and v is
-- what is left of x

abbrev pub Written : List ℕ → ℕ → ℕ → ℕ → List ℕ → Type 0
Written o x j v out = (j ≤ length o) × (out ≡ written_from o (hex_text (length o) x) j) × (take j (hex_text (length o) x) ≡ hex_text j v)

module _ (o : List ℕ) (x : ℕ) where
  pub written_none : Written o x (length o) x o
  written_none =
      let n : length (hex_text (length o) x) ≡ length o = length_hex (length o) x in (
        omega arith,
        sym (from_end o (hex_text (length o) x) n),
        ap (λ (k : ℕ). take k (hex_text (length o) x)) (sym n) ∙ take-length (hex_text (length o) x),
      )

  pub written_length : (j v : ℕ) (out : List ℕ) → Written o x j v out → length out ≡ length o
  written_length j v out p = ap length p.1 ∙ length_from o (hex_text (length o) x) (length_hex (length o) x) j p.0

  step : (j v d : ℕ) (out : List ℕ) → d ≡ hex_digit (v % 16) → Written o x (suc j) v out → Written o x j (v / 16) (set out j d)
  step j v d out e p =
      let q = digits_left (length o) x j v p.0 p.2 in (
        omega arith,
        ap₂ (λ (l : List ℕ) (y : ℕ). set l j y) p.1 (e ∙ sym q.0) ∙ from_next o (hex_text (length o) x) (length_hex (length o) x) j p.0,
        q.1,
      )

  pub written_step : (j v d : ℕ) (out : List ℕ) → 0 < j → d ≡ hex_digit (v % 16) → Written o x j v out → Written o x (j - 1) (v / 16) (set out (j - 1) d)
  written_step j v d out g e p =
      let n : j ≡ suc (j - 1) = omega arith in
      step (j - 1) v d out e (subst (λ (k : ℕ). Written o x k v out) n p)

  pub written_all : (j v : ℕ) (out : List ℕ) → j ≡ 0 → Written o x j v out → out ≡ hex_text (length o) x
  written_all j v out e p = p.1 ∙ ap (written_from o (hex_text (length o) x)) e

-- ---- fields one after the other

-- what is written into a part that is lent from place i on
pub placed : (i : ℕ) (t l : List ℕ) → take i l ++ (t ++ drop (i + length t) l) ≡ put i t l
unfolding put
placed i t l = refl

-- w digits written into the first part
pub field_first : (o part : List ℕ) (w x : ℕ) → w ≤ length o → part ≡ hex_text (length (take w o)) x → part ++ drop w o ≡ over (hex_text w x) o
unfolding over
field_first o part w x h q =
    let k : length (take w o) ≡ w = length-take-le w o h in
    ap₂ (λ (y : List ℕ) (j : ℕ). y ++ drop j o) (q ∙ ap (λ (j : ℕ). hex_text j x) k) (sym (length_hex w x))

-- w digits written into the part that begins at place `at`
pub field_put : (o part : List ℕ) (at w x : ℕ) → at + w ≤ length o → part ≡ hex_text (length (take w (drop at o))) x → take at o ++ (part ++ drop w (drop at o)) ≡ put at (hex_text w x) o
field_put o part at w x h q =
    let k : length (take w (drop at o)) ≡ w = length_part o at w h in
    ap₂ (λ (y r : List ℕ). take at o ++ (y ++ r)) (q ∙ ap (λ (j : ℕ). hex_text j x) k) (drop-drop w at o ∙ ap (λ (j : ℕ). drop (at + j) o) (sym (length_hex w x)))
    ∙ placed at (hex_text w x) o

-- or where the text s ends
pub field_next : (o o₁ s part : List ℕ) (at w x : ℕ) → o₁ ≡ over s o → length s ≡ at → at + w ≤ length o
    → part ≡ hex_text (length (take w (drop at o₁))) x → take at o₁ ++ (part ++ drop w (drop at o₁)) ≡ over (s ++ hex_text w x) o
field_next o o₁ s part at w x e n h q =
    let m : length o₁ ≡ length o = ap length e ∙ length_over s o (omega arith) in
    field_put o₁ part at w x (omega (arith, m)) q
    ∙ ap (put at (hex_text w x)) e
    ∙ over_put at s (hex_text w x) o (sym n) (omega (arith, length_hex w x))

-- a text, and the byte that ends a frame
ended : (o s out : List ℕ) (j : ℕ) → out ≡ over s o → length s ≡ j → j < length o → (set out j 10 ≡ over (s ++ (10 ∷ [])) o) × (length (set out j 10) ≡ length o)
ended o s out j e n h = (over_more out s o j 10 e n h, length-set out j 10 ∙ length_kept out s o e (omega arith))

pub line_written : (o out : List ℕ) (c m p : ℕ) → line_length ≤ length o → out ≡ over (hex_text 8 c ++ hex_text 16 m ++ hex_text 8 p) o
    → (set out 32 10 ≡ over (line_text c m p) o) × (length (set out 32 10) ≡ length o)
unfolding line_text
line_written o out c m p h e =
    let n : length (hex_text 8 c ++ hex_text 16 m ++ hex_text 8 p) ≡ 32 = simp length-append refl in
    let s : hex_text 8 c ++ hex_text 16 m ++ hex_text 8 p ++ (10 ∷ []) ≡ line_text c m p = simp append_assoc in
    let r = ended o _ out 32 e n (omega arith) in
    (r.0 ∙ ap (λ (t : List ℕ). over t o) s, r.1)

pub header_written : (o out : List ℕ) (rows times n tolerance configured roll x y z : ℕ) → header_length ≤ length o
    → out ≡ over (hex_text 8 rows ++ hex_text 8 times ++ hex_text 8 n ++ hex_text 16 tolerance ++ hex_text 2 configured ++ hex_text 16 roll ++ hex_text 16 x ++ hex_text 16 y ++ hex_text 16 z) o
    → (set out 106 10 ≡ over (header_text rows times n tolerance configured roll x y z) o) × (length (set out 106 10) ≡ length o)
unfolding header_text
header_written o out rows times n tolerance configured roll x y z h e =
    let t : List ℕ = hex_text 8 rows ++ hex_text 8 times ++ hex_text 8 n ++ hex_text 16 tolerance ++ hex_text 2 configured ++ hex_text 16 roll ++ hex_text 16 x ++ hex_text 16 y ++ hex_text 16 z in
    let k : length t ≡ 106 = simp (length-append, length_hex) refl in
    let s : t ++ (10 ∷ []) ≡ header_text rows times n tolerance configured roll x y z = simp append_assoc in
    let r = ended o t out 106 e k (omega arith) in
    (r.0 ∙ ap (λ (u : List ℕ). over u o) s, r.1)

pub length_header : (rows times n tolerance configured roll x y z : ℕ) → length (header_text rows times n tolerance configured roll x y z) ≡ header_length
unfolding header_text
length_header rows times n tolerance configured roll x y z = simp length-append refl
