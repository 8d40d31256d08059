-- By computation: digits and used lengths at and beside their limits, lines read back, which journals are right, and what is refused of rolls. Assumes nothing.
use mathlib.Core.Path.{◌≡◌, refl}
use mathlib.Core.Bool.{Bool, true, false}
use mathlib.Core.List.{List, [], ◌∷◌, ◌++◌}
use Prim.Native.Nat.{ℕ}
use lib.Count.{ones}
use lib.ListN.{replicate}
use lib.Ieee.{neg, lt, le, of_bits}
use Rattle.buffers.specs.Ranges.{sum, any, all_below, any_below}
use Rattle.buffers.specs.Refusal.{first, carried, refused, accepted, reply}
use Rattle.float.specs.Arithmetic.{zero·0, one, abs_of}
use Rattle.solar_roll.specs.Roll.{x_hat}
use Rattle.solar_roll.specs.Cell.{bad_position, bad_direction, too_large, any_not_unit, direction_refusal, numbers_refusal}
use Rattle.solar_roll.specs.Plan.{Plan, plan_of, plan_refusal, sizes_refusal, samples_refusal, unlike_lengths, too_many}
use Rattle.std.specs.Prelude.{None}
use Rattle.roll_sweep.specs.Rolls.{bad_roll, table_refusal}
use Rattle.roll_sweep.specs.Sweep.{chunks, cells_in}
use Rattle.journal.specs.Hex.{hex_text, are_digits, hex_value}
use Rattle.journal.specs.Lines.{header_length, line_text, line_start, chunk_at, mask_at, probes_at, has_chunk, has_chunks, held_mask, held_probes}
use Rattle.journal.specs.Right.{whole_lines, torn, agree, possible, framed, line_at, fits, line_right, lines_right, right}
use Rattle.journal.specs.Plan.{sweep_of, even_sweep, table_sweep}
use Rattle.journal.specs.Calls.{kept, begin_short, begin_refusal, begin_reply}

-- '0', '9', 'a' and 'f', and the bytes beside them; 'A'
pub digits :
    (hex_text 4 0x09af ≡ 48 ∷ 57 ∷ 97 ∷ 102 ∷ []) ×
    (hex_value (48 ∷ 57 ∷ 97 ∷ 102 ∷ []) 0 4 ≡ 0x09af) ×
    (are_digits (48 ∷ 57 ∷ 97 ∷ 102 ∷ []) 0 4 ≡ true) ×
    (are_digits (47 ∷ []) 0 1 ≡ false) ×
    (are_digits (58 ∷ []) 0 1 ≡ false) ×
    (are_digits (96 ∷ []) 0 1 ≡ false) ×
    (are_digits (103 ∷ []) 0 1 ≡ false) ×
    (are_digits (65 ∷ []) 0 1 ≡ false)
unfolding hex_text hex_value are_digits all_below
digits = (refl, refl, refl, refl, refl, refl, refl, refl)

-- used lengths: the header's 107 bytes, and lines of 33 after them
pub used :
    (torn 106 ≡ true) × (kept 106 ≡ 0) ×
    (torn 107 ≡ false) × (kept 107 ≡ 107) ×
    (torn 139 ≡ true) × (kept 139 ≡ 107) ×
    (torn 140 ≡ false) × (kept 140 ≡ 140)
unfolding torn kept whole_lines
used = (refl, refl, refl, refl, refl, refl, refl, refl)

-- chunk 1 with mask 5 and 9 probes, then chunk 0 with mask 2 and 7 probes; no header is read
abbrev bytes : List ℕ
bytes = replicate header_length 7 ++ (line_text 1 5 9 ++ line_text 0 2 7)

pub held :
    (chunk_at bytes 0 ≡ 1) ×
    (mask_at bytes 0 ≡ 5) ×
    (probes_at bytes 0 ≡ 9) ×
    (has_chunk bytes 1 0 ≡ false) ×
    (has_chunk bytes 2 0 ≡ true) ×
    (has_chunks bytes 2 2 ≡ true) ×
    (has_chunks bytes 2 3 ≡ false) ×
    (held_mask bytes 2 0 ≡ 2) ×
    (held_mask bytes 2 1 ≡ 5) ×
    (held_mask bytes 2 2 ≡ 0) ×
    (held_probes bytes 2 ≡ 16)
unfolding line_text hex_text hex_value line_start chunk_at mask_at probes_at has_chunk has_chunks held_mask held_probes sum all_below any_below
held = (refl, refl, refl, refl, refl, refl, refl, refl, refl, refl, refl)

-- ---- right: of 66 cells and 3 samples, so chunk 1 has two cells

-- one of them marked: 1 + 3 probes to 6; a spare bit
pub probes :
    (possible 66 3 1 2 3 ≡ false) ×
    (possible 66 3 1 2 4 ≡ true) ×
    (possible 66 3 1 2 6 ≡ true) ×
    (possible 66 3 1 2 7 ≡ false) ×
    (possible 66 3 1 4 6 ≡ false)
unfolding possible cells_in ones
probes = (refl, refl, refl, refl, refl)

-- none marked: 2 to 6; both: 6
pub probes_of_none_and_both : (possible 66 3 1 0 2 ≡ true) × (possible 66 3 1 3 5 ≡ false)
unfolding possible cells_in ones
probes_of_none_and_both = (refl, refl)

abbrev header : List ℕ
header = replicate header_length 7

-- a journal of u used bytes that begin with the header
abbrev right_up_to : ℕ → List ℕ → Bool
right_up_to u lines = right 66 3 header (header ++ lines) u

pub rights :
    -- both chunks, whole or with a tail; a header that is cut, and one of another plan
    (right_up_to 173 (line_text 1 2 4 ++ line_text 0 0 64) ≡ true) ×
    (right_up_to 150 (line_text 1 2 4 ++ replicate 10 7) ≡ true) ×
    (right_up_to 50 [] ≡ true) ×
    (right 66 3 header (replicate 49 7 ++ (8 ∷ [])) 50 ≡ false) ×
    -- a chunk twice, one that does not exist, impossible probes, a byte that is no digit, no 0a
    (right_up_to 173 (line_text 1 2 4 ++ line_text 1 2 4) ≡ false) ×
    (right_up_to 140 (line_text 2 0 0) ≡ false) ×
    (right_up_to 140 (line_text 1 2 3) ≡ false) ×
    (right_up_to 140 (hex_text 7 0 ++ (65 ∷ []) ++ hex_text 16 2 ++ hex_text 8 4 ++ (10 ∷ [])) ≡ false) ×
    (right_up_to 140 (hex_text 8 1 ++ hex_text 16 2 ++ hex_text 8 4 ++ (7 ∷ [])) ≡ false)
unfolding right agree lines_right line_right fits possible framed line_at chunks cells_in ones whole_lines line_text hex_text hex_value are_digits line_start chunk_at mask_at probes_at has_chunk all_below any_below
rights = (refl, refl, refl, refl, refl, refl, refl, refl, refl)

-- ---- rolls

-- a plan without targets and times, of which only the rolls can be refused
abbrev nothing : Plan
nothing = plan_of [] [] [] [] None x_hat

pub rolls_refused :
    -- n of 0 and of 3,601 even steps
    (begin_reply (even_sweep nothing 0) [] 0 ≡ refused 3) ×
    (begin_reply (even_sweep nothing 3601) [] 0 ≡ refused 3) ×
    (begin_reply (even_sweep nothing 3600) [] 0 ≡ refused 7) ×
    -- a table: without a roll; a roll that is not above the one before it, and one below 0
    (begin_reply (table_sweep nothing []) [] 0 ≡ refused 18) ×
    (begin_reply (table_sweep nothing (one ∷ zero·0 ∷ [])) [] 0 ≡ refused 19) ×
    (begin_reply (table_sweep nothing (neg one ∷ [])) [] 0 ≡ refused 19) ×
    (begin_reply (table_sweep nothing (zero·0 ∷ one ∷ [])) [] 0 ≡ refused 7) ×
    (begin_reply (table_sweep nothing (zero·0 ∷ one ∷ [])) header 0 ≡ accepted 107)
unfolding begin_reply begin_refusal begin_short reply first carried sweep_of samples_refusal table_refusal bad_roll plan_refusal sizes_refusal unlike_lengths too_many numbers_refusal direction_refusal any any_below bad_position bad_direction too_large any_not_unit abs_of le lt neg of_bits
rolls_refused = (refl, refl, refl, refl, refl, refl, refl, refl)
