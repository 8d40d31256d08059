-- Section 4: begin, work, recover and collect. Of each, the conditions that refuse it in the order in which they are tried, the answer, and the bytes
-- that it leaves: for every lent buffer b and used length u. Definitions only. Assumes nothing.
use Rattle.std.specs.Prelude.{Bool, cond, not, List, [], ◌∷◌, ℕ, ◌+◌, ◌*◌, ◌/◌, ◌%◌, leb, ltb, eqb, length}
use Rattle.buffers.specs.Lent.{filled, put}
use Rattle.buffers.specs.Refusal.{Conditions, first, carried, Reply, reply, unless_refused}
use Rattle.roll_sweep.specs.Sweep.{Sweep, cells, chunks}
use Rattle.journal.specs.Lines.{header_length, line_length, line_of, has_chunk, has_chunks, held_mask, held_probes, bit_of}
use Rattle.journal.specs.Right.{whole_lines, torn, right}

-- *Plan* is tried before a call's own conditions: a used length beyond the buffer is part of 1
abbrev pub after_plan : Sweep → List ℕ → ℕ → Conditions → Conditions
after_plan s b u own = carried (s.refusal (ltb (length b) u)) ∷ own

-- the journal is not right for the plan
unfoldable pub wrong : Sweep → List ℕ → ℕ → Bool
unfolding right
wrong s b u = not (right (cells s) s.samples s.header b u)

-- ---- 7, of each call that has it: by the lengths of what is lent

unfoldable pub begin_short : ℕ → Bool
begin_short room = ltb room header_length

unfoldable pub work_short : ℕ → ℕ → Bool
work_short room u = ltb room (u + line_length)

unfoldable pub collect_short : Sweep → ℕ → Bool
collect_short s room = ltb room (cells s)

-- ---- begin makes the journal the header

abbrev pub begin_conditions : List ℕ → ℕ → Conditions
begin_conditions b u =
    (not (eqb u 0), 13)
    ∷ (begin_short (length b), 7)
    ∷ []

unfoldable pub begin_refusal : Sweep → List ℕ → ℕ → ℕ
unfolding first carried begin_short
begin_refusal s b u = first (after_plan s b u (begin_conditions b u))

-- the used length that it leaves
unfoldable pub begin_reply : Sweep → List ℕ → ℕ → Reply ℕ
unfolding begin_refusal reply
begin_reply s b u = reply (begin_refusal s b u) header_length

unfoldable pub begin_bytes : Sweep → List ℕ → ℕ → List ℕ
unfolding begin_refusal unless_refused put
begin_bytes s b u = unless_refused (begin_refusal s b u) (put 0 s.header b) b

-- ---- work c appends the line of chunk c

abbrev pub work_conditions : Sweep → ℕ → List ℕ → ℕ → Conditions
work_conditions s c b u =
    (leb (chunks (cells s)) c, 9)
    ∷ (wrong s b u, 11)
    ∷ (torn u, 12)
    ∷ (has_chunk b (whole_lines u) c, 10)
    ∷ (work_short (length b) u, 7)
    ∷ []

unfoldable pub work_refusal : Sweep → ℕ → List ℕ → ℕ → ℕ
unfolding first carried chunks wrong torn has_chunk work_short
work_refusal s c b u = first (after_plan s b u (work_conditions s c b u))

unfoldable pub work_reply : Sweep → ℕ → List ℕ → ℕ → Reply ℕ
unfolding work_refusal reply
work_reply s c b u = reply (work_refusal s c b u) (u + line_length)

unfoldable pub work_bytes : Sweep → ℕ → List ℕ → ℕ → List ℕ
unfolding work_refusal unless_refused put line_of
work_bytes s c b u = unless_refused (work_refusal s c b u) (put u (line_of s c) b) b

-- ---- recover alters no byte: it shortens the used length

-- to 0 if the header is incomplete, else to the header and its whole lines
unfoldable pub kept : ℕ → ℕ
unfolding whole_lines
kept u = cond (ltb u header_length) 0 (header_length + line_length * whole_lines u)

abbrev pub recover_conditions : Sweep → List ℕ → ℕ → Conditions
recover_conditions s b u = (wrong s b u, 11) ∷ []

unfoldable pub recover_refusal : Sweep → List ℕ → ℕ → ℕ
unfolding first carried wrong
recover_refusal s b u = first (after_plan s b u (recover_conditions s b u))

unfoldable pub recover_reply : Sweep → List ℕ → ℕ → Reply ℕ
unfolding recover_refusal reply kept
recover_reply s b u = reply (recover_refusal s b u) (kept u)

-- ---- collect, with the lent mask o

abbrev pub collect_conditions : Sweep → List ℕ → ℕ → List ℕ → Conditions
collect_conditions s b u o =
    (wrong s b u, 11)
    ∷ (torn u, 12)
    ∷ (not (has_chunks b (whole_lines u) (chunks (cells s))), 15)
    ∷ (collect_short s (length o), 7)
    ∷ []

unfoldable pub collect_refusal : Sweep → List ℕ → ℕ → List ℕ → ℕ
unfolding first carried wrong torn has_chunks chunks collect_short
collect_refusal s b u o = first (after_plan s b u (collect_conditions s b u o))

-- the sum of the lines' probes
unfoldable pub collect_reply : Sweep → List ℕ → ℕ → List ℕ → Reply ℕ
unfolding collect_refusal reply held_probes
collect_reply s b u o = reply (collect_refusal s b u o) (held_probes b (whole_lines u))

-- the bit that the lines hold for cell i
unfoldable pub held_bit : List ℕ → ℕ → ℕ → ℕ
unfolding held_mask whole_lines
held_bit b u i = bit_of (held_mask b (whole_lines u) (i / 64)) (i % 64)

unfoldable pub collect_mask : Sweep → List ℕ → ℕ → List ℕ → List ℕ
unfolding collect_refusal unless_refused filled held_bit
collect_mask s b u o = unless_refused (collect_refusal s b u o) (filled (cells s) (held_bit b u) o) o
