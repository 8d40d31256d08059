-- A line that work wrote, read back: its digits fit, it is framed, and it is right where its chunk has no line before it. Assumes nothing.
use mathlib.Core.Path.{◌≡◌, refl, sym, ap, ap₂, ◌∙◌}
use mathlib.Core.Bool.{true, false, not}
use mathlib.Core.List.{List, ◌∷◌, ◌++◌, append_assoc}
use Prim.Native.Nat.{ℕ, ◌+◌, ◌^◌, ◌≤◌, ◌<◌}
use native.Mathlib.Nat.{lt_of_lt_of_le, mul-le-mul}
use native.Mathlib.Omega.{arith}
use lib.Pow.{pow_mono}
use lib.ListN.{length, get_or, length-append}
use lib.Seq.{get_or_at}
use lib.Dec.{ltb}
use borrow.Author.Tests.{lt-ltb, le-leb, eq-eqb}
use Rattle.buffers.proofs.Tests.{and_both}
use Rattle.solar_roll.specs.Plan.{most_cells, most_samples}
use Rattle.roll_sweep.specs.Sweep.{Sweep, cells, chunks, chunk_mask, chunk_probes}
use Rattle.roll_sweep.proofs.Chunks.{cells_le, mask_lt, probes_low, probes_high}
use Rattle.journal.specs.Hex.{hex_text, are_digits, hex_value}
use Rattle.journal.specs.Lines.{line_length, header_length, line_text, line_of, line_start, chunk_at, mask_at, probes_at, has_chunk}
use Rattle.journal.specs.Right.{possible, framed, line_right}
use Rattle.journal.proofs.Scan.{line_fits_is}
use Rattle.journal.proofs.Text.{value_hex, digits_hex, digits_add}

-- what is known of the sweep of an accepted plan
pub record SweepFacts (s : Sweep) : Type 0 where
  -- its refusals pass where the used length lies in its buffer
  pub plan : s.refusal false ≡ 0
  pub few : cells s ≤ most_cells
  pub one : 1 ≤ s.samples
  pub most : s.samples ≤ most_samples
  pub header : length s.header ≡ header_length

-- ---- what a line holds fits its digits

module _ (s : Sweep) where
  mask_fits : (c : ℕ) → chunk_mask s c < 16 ^ 16
  mask_fits c = lt_of_lt_of_le (mask_lt s c) (pow_mono {j = 64} (cells_le (cells s) c))

  module _ (a : SweepFacts s) (c : ℕ) where
    chunk_fits : c < chunks (cells s) → c < 16 ^ 8
    unfolding chunks
    chunk_fits h = omega (arith, a.few)

    probes_fit : chunk_probes s c < 16 ^ 8
    probes_fit = omega (arith, probes_high s c a.one, mul-le-mul a.most (cells_le (cells s) c))

    possible_line : possible (cells s) s.samples c (chunk_mask s c) (chunk_probes s c) ≡ true
    unfolding possible
    possible_line = and_both _ _ (and_both _ _ (lt-ltb _ _ (mask_lt s c)) (le-leb _ _ (probes_low s c a.one))) (le-leb _ _ (probes_high s c a.one))

-- ---- a line that work wrote is read back

pub length_line : (s : Sweep) (c : ℕ) → length (line_of s c) ≡ line_length
unfolding line_of
length_line s c = simp length-append refl

-- line l of b is chunk c's
pub record LineAt (s : Sweep) (b : List ℕ) (l c : ℕ) : Type 0 where
  pub chunk : chunk_at b l ≡ c
  pub mask : mask_at b l ≡ chunk_mask s c
  pub probes : probes_at b l ≡ chunk_probes s c
  pub digits : are_digits b (line_start l) 32 ≡ true
  pub newline : get_or b (line_start l + 32) 0 ≡ 10

value_at : (w x i : ℕ) (b p q : List ℕ) → b ≡ p ++ (hex_text w x ++ q) → length p ≡ i → x < 16 ^ w → hex_value b i w ≡ x
value_at w x i b p q e n h = ap₂ (λ (a : List ℕ) (j : ℕ). hex_value a j w) e (sym n) ∙ value_hex w x p q h

digits_at : (w x i : ℕ) (b p q : List ℕ) → b ≡ p ++ (hex_text w x ++ q) → length p ≡ i → are_digits b i w ≡ true
digits_at w x i b p q e n = ap₂ (λ (a : List ℕ) (j : ℕ). are_digits a j w) e (sym n) ∙ digits_hex w x p q

pub read_line : (s : Sweep) → SweepFacts s → (c l : ℕ) (p q : List ℕ) → c < chunks (cells s) → length p ≡ line_start l → LineAt s (p ++ (line_of s c ++ q)) l c
unfolding line_of line_text chunk_at mask_at probes_at
read_line s a c l p q h n =
    let x : List ℕ = hex_text 8 c in
    let y : List ℕ = hex_text 16 (chunk_mask s c) in
    let z : List ℕ = hex_text 8 (chunk_probes s c) in
    let b : List ℕ = p ++ (line_of s c ++ q) in
    let e₁ : b ≡ p ++ (x ++ (y ++ (z ++ (10 ∷ q)))) = simp append_assoc in
    let e₂ : b ≡ (p ++ x) ++ (y ++ (z ++ (10 ∷ q))) = simp append_assoc in
    let e₃ : b ≡ (p ++ x ++ y) ++ (z ++ (10 ∷ q)) = simp append_assoc in
    let e₄ : b ≡ (p ++ x ++ y ++ z) ++ (10 ∷ q) = simp append_assoc in
    let n₂ : length (p ++ x) ≡ line_start l + 8 = simp length-append (omega arith) in
    let n₃ : length (p ++ x ++ y) ≡ line_start l + 24 = simp length-append (omega arith) in
    let n₄ : length (p ++ x ++ y ++ z) ≡ line_start l + 32 = simp length-append (omega arith) in
    record {
      chunk = value_at 8 c (line_start l) b p (y ++ (z ++ (10 ∷ q))) e₁ n (chunk_fits s a c h);
      mask = value_at 16 (chunk_mask s c) (line_start l + 8) b (p ++ x) (z ++ (10 ∷ q)) e₂ n₂ (mask_fits s c);
      probes = value_at 8 (chunk_probes s c) (line_start l + 24) b (p ++ x ++ y) (10 ∷ q) e₃ n₃ (probes_fit s a c);
      digits =
          digits_add b (line_start l) 24 8
          (digits_add b (line_start l) 8 16 (digits_at 8 c (line_start l) b p (y ++ (z ++ (10 ∷ q))) e₁ n) (digits_at 16 (chunk_mask s c) (line_start l + 8) b (p ++ x) (z ++ (10 ∷ q)) e₂ n₂))
          (digits_at 8 (chunk_probes s c) (line_start l + 24) b (p ++ x ++ y) (10 ∷ q) e₃ n₃);
      newline = ap (λ (t : List ℕ). get_or t (line_start l + 32) 0) e₄ ∙ get_or_at (p ++ x ++ y ++ z) 10 q 0 (line_start l + 32) n₄;
    }

-- and it is right, where no line before it is its chunk's
pub line_right_lem : (s : Sweep) → SweepFacts s → (b : List ℕ) (l c : ℕ) → LineAt s b l c → c < chunks (cells s) → has_chunk b l c ≡ false → line_right (cells s) s.samples b l ≡ true
unfolding line_right framed
line_right_lem s a b l c n h f =
    let new : not (has_chunk b l (chunk_at b l)) ≡ true = ap not (ap (has_chunk b l) n.chunk ∙ f) in
    let exists : ltb (chunk_at b l) (chunks (cells s)) ≡ true = ap (λ (x : ℕ). ltb x (chunks (cells s))) n.chunk ∙ lt-ltb c (chunks (cells s)) h in
    let can : possible (cells s) s.samples (chunk_at b l) (mask_at b l) (probes_at b l) ≡ true =
    (λ i. possible (cells s) s.samples (n.chunk i) (n.mask i) (n.probes i)) ∙ possible_line s a c in
    let fit = line_fits_is (cells s) s.samples b l ∙ and_both _ _ (and_both _ _ n.digits (eq-eqb _ _ n.newline)) (and_both _ _ exists can) in
    and_both _ _ fit new
