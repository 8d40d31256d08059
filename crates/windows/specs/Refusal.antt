-- What the window calls say no to (document 01, *Windows*): the conditions in order, each with its number. Definitions only. Assumes nothing.
use Rattle.std.specs.Prelude.{ℕ, Bool, false, not, ◌||◌, List, [], ◌∷◌, length, ℤ, pos, negsuc, ◌==◌, int_lt, nat_lt, Float}
use Rattle.buffers.specs.Ranges.{any}
use Rattle.buffers.specs.Refusal.{Conditions, first}
use Rattle.float.specs.Arithmetic.{sign_bit_of, finite}
use Rattle.windows.specs.Runs.{violation_runs, visibility_runs}
use Rattle.windows.specs.Windows.{Columns}

-- the most samples of a row, and the most windows, that a call is lent
abbrev pub most_lent : ℕ
most_lent = 65_536

-- a time beyond 4 * 10 ^ 18 nanoseconds either way (negsuc n is -(n + 1))
unfoldable pub beyond : ℤ → Bool
beyond t = int_lt t (negsuc 3_999_999_999_999_999_999) || int_lt (pos 4_000_000_000_000_000_000) t

-- a mask byte that is neither 0 nor 1
unfoldable pub bad_mark : ℕ → Bool
bad_mark b = nat_lt 1 b

-- a severity that is NaN, infinite, or has its sign bit set
unfoldable pub bad_severity : Float → Bool
bad_severity x = not (finite x) || sign_bit_of x

-- lengths that differ: one of them is not the first of them
unfoldable pub differ : List ℕ → Bool
unfolding any
differ [] = false
differ (n ∷ ns) = any (λ (m : ℕ). not (m == n)) ns

-- the lengths of the six lent columns
unfoldable pub lengths : Columns → List ℕ
lengths c = length c.first ∷ length c.last ∷ length c.first_time ∷ length c.last_time ∷ length c.severity ∷ length c.is_last ∷ []

-- more windows than places, where all lent lists have as many places as the first
unfoldable pub no_room : List ℕ → ℕ → Bool
no_room [] n = nat_lt 0 n
no_room (p ∷ ps) n = nat_lt p n

-- *Windows*. `uneven`: lengths differ, of the lists of samples or of the lists of places; `short`: more windows than places
abbrev pub windows_conditions : Bool → List ℕ → List ℤ → List Float → Bool → Conditions
windows_conditions uneven mask times severities short =
    (uneven, 1)
    ∷ (nat_lt most_lent (length mask), 2)
    ∷ (any beyond times, 8)
    ∷ (any bad_mark mask || any bad_severity severities, 14)
    ∷ (short, 7)
    ∷ []

-- the number of the first of these that holds, 0 for none
unfoldable pub windows_refusal : Bool → List ℕ → List ℤ → List Float → Bool → ℕ
unfolding first
windows_refusal uneven mask times severities short = first (windows_conditions uneven mask times severities short)

-- of the violation listing, 0 for none: `places` are the lengths of the lent columns, or the length of the one lent list of records
unfoldable pub violation_refusal : List ℕ → List ℤ → List Float → List ℕ → ℕ
unfolding windows_refusal differ no_room violation_runs
violation_refusal mask times severities places =
    windows_refusal (differ (length mask ∷ length times ∷ length severities ∷ []) || differ places) mask times severities (no_room places (length (violation_runs mask)))

-- of the visibility listing, 0 for none: visibility lends no severities
unfoldable pub visibility_refusal : List ℕ → List ℤ → List ℕ → ℕ
unfolding windows_refusal differ no_room visibility_runs
visibility_refusal mask times places =
    windows_refusal (differ (length mask ∷ length times ∷ []) || differ places) mask times [] (no_room places (length (visibility_runs mask)))
