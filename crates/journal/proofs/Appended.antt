-- One line more. What is read of a journal's beginning depends on no byte beyond it; so a journal that is right, without a tail, is right again once
-- work's line stands at its end, and that line's chunk is the one that has a line more. Assumes nothing.
use mathlib.Core.Path.{◌≡◌, sym, ap, ap₂, ◌∙◌}
use mathlib.Core.Bool.{Bool, true, false, ◌&&◌, ◌||◌, not}
use mathlib.Core.List.{List}
use Prim.Native.Nat.{ℕ, ◌+◌, ◌-◌, ◌*◌, ◌%◌, ◌≤◌, ◌<◌, min}
use native.Mathlib.Omega.{arith}
use lib.ListN.{length, get_or, take, drop}
use lib.Seq.{length-take-le}
use lib.Dec.{ltb, eqb}
use borrow.Author.Tests.{le-ltb, ltb-false, eq-eqb, eqb-true, not-false}
use Rattle.buffers.specs.Lent.{put}
use Rattle.buffers.proofs.Lent.{get_or_before, length_put}
use Rattle.buffers.proofs.Ranges.{any_ext, any_step, all_ext, all_step}
use Rattle.buffers.proofs.Tests.{and_left, and_right, and_both, or_left, or_right, or_none}
use Rattle.roll_sweep.specs.Sweep.{Sweep, cells, chunks}
use Rattle.journal.specs.Hex.{are_digits, hex_value}
use Rattle.journal.specs.Lines.{line_length, header_length, line_of, line_start, chunk_at, mask_at, probes_at, has_chunk}
use Rattle.journal.specs.Right.{whole_lines, torn, agree, possible, framed, line_fits, line_right, lines_right, right}
use Rattle.journal.proofs.Text.{value_alike, digits_alike}
use Rattle.journal.proofs.Scan.{line_fits_is}
use Rattle.journal.proofs.Written.{SweepFacts, length_line, LineAt, read_line, line_right_lem}

-- ---- two buffers with the same first m bytes

abbrev Same : ℕ → List ℕ → List ℕ → Type 0
Same m b d = (k : ℕ) → k < m → get_or b k 0 ≡ get_or d k 0

module _ (m : ℕ) (b d : List ℕ) (e : Same m b d) where
  value_same : (i w : ℕ) → i + w ≤ m → hex_value b i w ≡ hex_value d i w
  value_same i w h = value_alike b d i i w (λ k g. e (i + k) (omega arith))

  digits_same : (i w : ℕ) → i + w ≤ m → are_digits b i w ≡ are_digits d i w
  digits_same i w h = digits_alike b d i i w (λ k g. e (i + k) (omega arith))

  agree_same : (h : List ℕ) (j : ℕ) → j ≤ m → agree b h j ≡ agree d h j
  unfolding agree
  agree_same h j l = all_ext j _ (λ k. eqb (get_or d k 0) (get_or h k 0)) (λ k g. ap (λ (x : ℕ). eqb x (get_or h k 0)) (e k (omega arith)))

  module _ (l : ℕ) where
    chunk_same : line_start (l + 1) ≤ m → chunk_at b l ≡ chunk_at d l
    unfolding chunk_at line_start
    chunk_same h = value_same (header_length + line_length * l) 8 (omega arith)

    has_same : (c : ℕ) → line_start l ≤ m → has_chunk b l c ≡ has_chunk d l c
    unfolding has_chunk line_start chunk_at
    has_same c h = any_ext l _ (λ j. eqb (chunk_at d j) c) (λ j g. ap (λ (x : ℕ). eqb x c) (value_same (header_length + line_length * j) 8 (omega arith)))

    fits_same : (n k : ℕ) → line_start (l + 1) ≤ m → line_fits n k b l ≡ line_fits n k d l
    unfolding framed chunk_at mask_at probes_at line_start
    fits_same n k h =
        let at : ℕ = header_length + line_length * l in
        let digits : are_digits b at 32 ≡ are_digits d at 32 = digits_same at 32 (omega arith) in
        let newline : get_or b (at + 32) 0 ≡ get_or d (at + 32) 0 = e (at + 32) (omega arith) in
        let chunk : hex_value b at 8 ≡ hex_value d at 8 = value_same at 8 (omega arith) in
        let mask : hex_value b (at + 8) 16 ≡ hex_value d (at + 8) 16 = value_same (at + 8) 16 (omega arith) in
        let probes : hex_value b (at + 24) 8 ≡ hex_value d (at + 24) 8 = value_same (at + 24) 8 (omega arith) in
        line_fits_is n k b l
        ∙ (λ i. (digits i && eqb (newline i) 10) && (ltb (chunk i) (chunks n) && possible n k (chunk i) (mask i) (probes i)))
        ∙ sym (line_fits_is n k d l)

    line_same : (n k : ℕ) → line_start (l + 1) ≤ m → line_right n k b l ≡ line_right n k d l
    unfolding line_right line_start
    line_same n k h =
        ap₂ (λ (x y : Bool). x && not y) (fits_same n k h)
        (ap (has_chunk b l) (chunk_same h) ∙ has_same (chunk_at d l) (omega arith))

  lines_same : (n k l : ℕ) → line_start l ≤ m → lines_right n k b l ≡ lines_right n k d l
  unfolding lines_right line_start
  lines_same n k l h = all_ext l _ (line_right n k d) (λ j g. line_same j n k (omega arith))

-- ---- the used length, without a tail

module _ (u : ℕ) (w : torn u ≡ false) where
  pub at_line : u ≡ line_start (whole_lines u)
  unfolding torn line_start whole_lines
  at_line =
      let short = ltb-false u header_length (or_left (ltb u header_length) (not (eqb ((u - header_length) % line_length) 0)) w) in
      let tail = eqb-true ((u - header_length) % line_length) 0 (not-false (eqb ((u - header_length) % line_length) 0) (or_right (ltb u header_length) (not (eqb ((u - header_length) % line_length) 0)) w)) in
      omega arith

  pub line_more : whole_lines (u + line_length) ≡ whole_lines u + 1
  unfolding whole_lines line_start
  line_more = omega (arith, at_line)

  pub torn_more : torn (u + line_length) ≡ false
  unfolding torn line_start whole_lines
  torn_more =
      or_none (ltb (u + line_length) header_length) (not (eqb ((u + line_length - header_length) % line_length) 0)) (le-ltb (u + line_length) header_length (omega (arith, at_line)))
      (ap not (eq-eqb ((u + line_length - header_length) % line_length) 0 (omega (arith, at_line))))

-- ---- a journal that is right, and work's line of chunk c at its end

module _ (s : Sweep) (a : SweepFacts s) (b : List ℕ) (u c : ℕ) (w : torn u ≡ false) (exists : c < chunks (cells s)) (room : u + line_length ≤ length b) where
  room_for : u + length (line_of s c) ≤ length b
  room_for = omega (arith, length_line s c)

  pub length_more : length (put u (line_of s c) b) ≡ length b
  length_more = length_put u (line_of s c) b room_for

  before : Same u (put u (line_of s c) b) b
  before k h = get_or_before u (line_of s c) b 0 room_for k h

  line_here : LineAt s (put u (line_of s c) b) (whole_lines u) c
  unfolding put
  line_here = read_line s a c (whole_lines u) (take u b) (drop (u + length (line_of s c)) b) exists (length-take-le u b (omega arith) ∙ at_line u w)

  has_before : (d : ℕ) → has_chunk (put u (line_of s c) b) (whole_lines u) d ≡ has_chunk b (whole_lines u) d
  has_before d = has_same u _ b before (whole_lines u) d (omega (arith, at_line u w))

  -- chunk c has a line more, and no other
  pub has_more : (d : ℕ) → has_chunk (put u (line_of s c) b) (whole_lines (u + line_length)) d ≡ (has_chunk b (whole_lines u) d || eqb c d)
  unfolding has_chunk
  has_more d =
      ap (λ (n : ℕ). has_chunk (put u (line_of s c) b) n d) (line_more u w)
      ∙ any_step (whole_lines u) (λ j. eqb (chunk_at (put u (line_of s c) b) j) d)
      ∙ ap₂ (λ (x : Bool) (y : ℕ). x || eqb y d) (has_before d) line_here.chunk

  pub right_more : right (cells s) s.samples s.header b u ≡ true → has_chunk b (whole_lines u) c ≡ false
      → right (cells s) s.samples s.header (put u (line_of s c) b) (u + line_length) ≡ true
  unfolding right lines_right line_start
  right_more r f =
      let n : ℕ = whole_lines u in
      let o : List ℕ = put u (line_of s c) b in
      let e : min u header_length ≡ min (u + line_length) header_length = omega (arith, at_line u w) in
      let header : agree o s.header (min (u + line_length) header_length) ≡ true =
      ap (agree o s.header) (sym e) ∙ agree_same u o b before s.header (min u header_length) (omega arith) ∙ and_left (agree b s.header (min u header_length)) (lines_right (cells s) s.samples b n) r in
      let lines : lines_right (cells s) s.samples o n ≡ true =
      lines_same u o b before (cells s) s.samples n (omega (arith, at_line u w)) ∙ and_right (agree b s.header (min u header_length)) (lines_right (cells s) s.samples b n) r in
      and_both _ _ header
      (ap (lines_right (cells s) s.samples o) (line_more u w)
      ∙ all_step n (line_right (cells s) s.samples o)
      ∙ and_both _ _ lines (line_right_lem s a o n c line_here exists (has_before c ∙ f)))
