-- Section 4: when a journal is right. b is the lent buffer, u its used length, l a line's number; n is how many cells the plan has, k how many
-- samples, h its header. Definitions only. Assumes nothing.
use Rattle.std.specs.Prelude.{Bool, false, cond, ◌&&◌, ◌||◌, not, List, ℕ, ◌+◌, ◌-◌, ◌*◌, ◌/◌, ◌%◌, ◌^◌, min, leb, ltb, eqb, get_or, Option, Some, None}
use Rattle.std.specs.Int.Count.{ones}
use Rattle.buffers.specs.Ranges.{all_below}
use Rattle.roll_sweep.specs.Sweep.{chunks, cells_in}
use Rattle.journal.specs.Hex.{are_digits}
use Rattle.journal.specs.Lines.{header_length, line_length, line_start, chunk_at, mask_at, probes_at, has_chunk}
use Rattle.journal.specs.declared.line.Line.{Line}

-- how many whole lines stand in u used bytes
unfoldable pub whole_lines : ℕ → ℕ
whole_lines u = (u - header_length) / line_length

-- the header is incomplete, or a tail shorter than a line follows the last whole line
unfoldable pub torn : ℕ → Bool
torn u = ltb u header_length || not (eqb ((u - header_length) % line_length) 0)

-- the first m bytes of b are those of h
unfoldable pub agree : List ℕ → List ℕ → ℕ → Bool
unfolding all_below
agree b h m = all_below m (λ j. eqb (get_or b j 0) (get_or h j 0))

-- of chunk c, mask m has zero spare bits, and probes p lie from (clear + k·marked) to k·cells
unfoldable pub possible : ℕ → ℕ → ℕ → ℕ → ℕ → Bool
unfolding cells_in
possible n k c m p = ltb m (2 ^ cells_in n c) && leb (cells_in n c - ones m + k * ones m) p && leb p (k * cells_in n c)

-- line l has 32 digits and 0a
unfoldable pub framed : List ℕ → ℕ → Bool
unfolding are_digits line_start
framed b l = are_digits b (line_start l) 32 && eqb (get_or b (line_start l + 32) 0) 10

-- line l, as it is read: none where it is not framed
unfoldable pub line_at : List ℕ → ℕ → Option Line
unfolding framed chunk_at mask_at probes_at
line_at b l = cond (framed b l) (Some (record { chunk = chunk_at b l; mask = mask_at b l; probes = probes_at b l })) None

-- a line has 32 digits and 0a, a chunk that exists, and a possible mask and probes
unfoldable pub fits : ℕ → ℕ → Option Line → Bool
unfolding chunks possible
fits n k None = false
fits n k (Some line) = ltb line.chunk (chunks n) && possible n k line.chunk line.mask line.probes

abbrev pub line_fits : ℕ → ℕ → List ℕ → ℕ → Bool
line_fits n k b l = fits n k (line_at b l)

-- line l fits, and no line before it is its chunk's
unfoldable pub line_right : ℕ → ℕ → List ℕ → ℕ → Bool
unfolding fits line_at has_chunk chunk_at
line_right n k b l = line_fits n k b l && not (has_chunk b l (chunk_at b l))

-- the first l lines are right
unfoldable pub lines_right : ℕ → ℕ → List ℕ → ℕ → Bool
unfolding all_below line_right
lines_right n k b l = all_below l (line_right n k b)

-- Document 01's right: the header is this plan's (if shorter than 107 bytes: it begins that header), and each whole line is right.
unfoldable pub right : ℕ → ℕ → List ℕ → List ℕ → ℕ → Bool
unfolding agree lines_right whole_lines
right n k h b u = agree b h (min u header_length) && lines_right n k b (whole_lines u)
