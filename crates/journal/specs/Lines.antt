-- Section 4: a chunk line as it is written, and what the lines of any bytes hold, whoever wrote them. Definitions only. Assumes nothing.
use Rattle.std.specs.Prelude.{Bool, cond, List, [], ◌∷◌, ◌++◌, ℕ, zero, suc, ◌+◌, ◌*◌, ◌/◌, ◌%◌, ◌^◌, eqb}
use Rattle.buffers.specs.Ranges.{sum, all_below, any_below}
use Rattle.roll_sweep.specs.Sweep.{Sweep, chunk_mask, chunk_probes}
use Rattle.journal.specs.Hex.{hex_text, hex_value}

-- how many bytes a header has, and a line, with their 0a
abbrev pub header_length : ℕ
header_length = 107

abbrev pub line_length : ℕ
line_length = 33

-- chunk (8 digits), mask (16), probes (8), and byte 0a: 33 bytes
unfoldable pub line_text : ℕ → ℕ → ℕ → List ℕ
unfolding hex_text
line_text c m p = hex_text 8 c ++ (hex_text 16 m ++ (hex_text 8 p ++ (10 ∷ [])))

-- the line of chunk c
unfoldable pub line_of : Sweep → ℕ → List ℕ
unfolding line_text chunk_mask chunk_probes
line_of s c = line_text c (chunk_mask s c) (chunk_probes s c)

-- ---- read: b is the lent buffer, l a line's number

-- where line l begins: the header has 107 bytes, a line 33
unfoldable pub line_start : ℕ → ℕ
line_start l = header_length + line_length * l

-- its chunk, mask and probes
unfoldable pub chunk_at : List ℕ → ℕ → ℕ
unfolding hex_value line_start
chunk_at b l = hex_value b (line_start l) 8

unfoldable pub mask_at : List ℕ → ℕ → ℕ
unfolding hex_value line_start
mask_at b l = hex_value b (line_start l + 8) 16

unfoldable pub probes_at : List ℕ → ℕ → ℕ
unfolding hex_value line_start
probes_at b l = hex_value b (line_start l + 24) 8

-- one of the first l lines is chunk c's
unfoldable pub has_chunk : List ℕ → ℕ → ℕ → Bool
unfolding any_below chunk_at
has_chunk b l c = any_below l (λ j. eqb (chunk_at b j) c)

-- chunks 0 to m - 1 each have one of the first l lines
unfoldable pub has_chunks : List ℕ → ℕ → ℕ → Bool
unfolding all_below has_chunk
has_chunks b l m = all_below m (has_chunk b l)

-- the mask that the first l lines hold for chunk c, 0 where none is c's
unfoldable pub held_mask : List ℕ → ℕ → ℕ → ℕ
unfolding chunk_at mask_at
held_mask b zero c = 0
held_mask b (suc l) c = cond (eqb (chunk_at b l) c) (mask_at b l) (held_mask b l c)

-- the sum of the probes of the first l lines
unfoldable pub held_probes : List ℕ → ℕ → ℕ
unfolding sum probes_at
held_probes b l = sum l (probes_at b)

-- bit k of mask m
abbrev pub bit_of : ℕ → ℕ → ℕ
bit_of m k = m / 2 ^ k % 2
