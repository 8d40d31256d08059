-- Refusals of the window calls: what an accepted call knows, and what a test's answer says. Assumes nothing.
use Rattle.std.proofs.Common.{◌≡◌, ℕ, zero, suc, ◌<◌, ◌≤◌, Bool, true, false, not, ◌||◌, eqb, List, [], ◌∷◌, length, get_or, ltb, ℤ, sym, refl, ap, ◌∙◌, arith, ltb-false, le-ltb, lt-ltb, eq-eqb, eqb-true}
use lib.Ieee.{Float}
use Rattle.std.specs.Int.{from_bool}
use Rattle.std.specs.List.{list_any, slice_get}
use Rattle.std.specs.Option.{unwrap_or}
use borrow.Author.Tests.{not-false}
use Rattle.buffers.specs.Ranges.{flag, any}
use Rattle.buffers.specs.Refusal.{first, refused, reply}
use Rattle.buffers.proofs.Tests.{or_left, or_right}
use Rattle.buffers.proofs.Ranges.{any_get_or}
use Rattle.buffers.proofs.Refusals.{first_clears}
use Rattle.windows.specs.Refusal.{most_lent, beyond, bad_mark, bad_severity, differ, no_room, windows_conditions, windows_refusal}
use Rattle.windows.specs.Expand.{expand_conditions, expand_refusal}
use Rattle.windows.specs.Seconds.{duration_conditions, duration_refusal}

-- ---- lengths that do not differ

pub same_at : (n : ℕ) (ns : List ℕ) (i : ℕ) → differ (n ∷ ns) ≡ false → i < length ns → get_or ns i 0 ≡ n
unfolding differ
same_at n ns i e h = eqb-true (get_or ns i 0) n (not-false (eqb (get_or ns i 0) n) (any_get_or (λ (m : ℕ). not (eqb m n)) ns 0 i e h))

-- ---- what an accepted call knows

pub record WindowsAccepted (uneven : Bool) (mask : List ℕ) (times : List ℤ) (severities : List Float) (short : Bool) : Type 0 where
  pub even : uneven ≡ false
  pub few : length mask ≤ most_lent
  pub timely : any beyond times ≡ false
  pub marks : any bad_mark mask ≡ false
  pub rated : any bad_severity severities ≡ false
  pub room : short ≡ false

pub windows_accepted : (uneven : Bool) (mask : List ℕ) (times : List ℤ) (severities : List Float) (short : Bool)
    → windows_refusal uneven mask times severities short ≡ 0 → WindowsAccepted uneven mask times severities short
unfolding windows_refusal
windows_accepted uneven mask times severities short e =
    let c = first_clears (windows_conditions uneven mask times severities short) refl e in
    record {
      even = c.0;
      few = ltb-false most_lent (length mask) c.1.0;
      timely = c.1.1.0;
      marks = or_left (any bad_mark mask) (any bad_severity severities) c.1.1.1.0;
      rated = or_right (any bad_mark mask) (any bad_severity severities) c.1.1.1.0;
      room = c.1.1.1.1.0;
    }

pub record Expandable (firsts lasts times : List ℤ) (places : ℕ) : Type 0 where
  pub even : length lasts ≡ length firsts
  pub room : length times ≤ places

pub expand_accepted : (firsts lasts times : List ℤ) (places : ℕ) → expand_refusal firsts lasts times places ≡ 0 → Expandable firsts lasts times places
unfolding expand_refusal
expand_accepted firsts lasts times places e =
    let c = first_clears (expand_conditions firsts lasts times places) refl e in
    record { even = same_at (length firsts) (length lasts ∷ []) 0 c.0 (omega arith); room = ltb-false places (length times) c.1.1.1.0 }

pub record Summable (firsts lasts : List ℤ) : Type 0 where
  pub even : length lasts ≡ length firsts
  pub few : length firsts ≤ most_lent
  pub first : any beyond firsts ≡ false
  pub last : any beyond lasts ≡ false

pub duration_accepted : (firsts lasts : List ℤ) → duration_refusal firsts lasts ≡ 0 → Summable firsts lasts
unfolding duration_refusal
duration_accepted firsts lasts e =
    let c = first_clears (duration_conditions firsts lasts) refl e in
    record {
      even = same_at (length firsts) (length lasts ∷ []) 0 c.0 (omega arith);
      few = ltb-false most_lent (length firsts) c.1.0;
      first = or_left (any beyond firsts) (any beyond lasts) c.1.1.0;
      last = or_right (any beyond firsts) (any beyond lasts) c.1.1.0;
    }

-- ---- a refusal is the one that the definition gives

pub refused_by : {A : Type 0} (j k : ℕ) (a : A) → refused j ≡ reply k a → j ≡ k
unfolding reply
refused_by j zero a e = cc
refused_by j (suc k) a e = cc

-- ---- this project's words and std's

pub any_list : {A : Type 0} (p : A → Bool) (l : List A) → list_any p l ≡ any p l
unfolding any
any_list p [] = refl
any_list p (x ∷ l) = ap (λ (b : Bool). p x || b) (any_list p l)

pub byte_flag : (b : Bool) → from_bool b ≡ flag b
byte_flag true = refl
byte_flag false = refl

pub short_is : (ps : List ℕ) (p n count : ℕ) → p ≡ unwrap_or (slice_get ps 0) 0 → count ≡ n → no_room ps n ≡ ltb p count
unfolding no_room
short_is [] p n count e h = sym (ap (ltb p) h ∙ ap (λ (m : ℕ). ltb m n) e)
short_is (q ∷ ps) p n count e h = sym (ap (ltb p) h ∙ ap (λ (m : ℕ). ltb m n) e)

-- ---- *Windows*, test by test

module _ (uneven : Bool) (mask : List ℕ) (times : List ℤ) (severities : List Float) (short : Bool) where
  abbrev why : ℕ
  why = windows_refusal uneven mask times severities short

  pub refuses_1 : uneven ≡ true → why ≡ 1
  unfolding windows_refusal first
  refuses_1 e = rw e

  pub refuses_2 : uneven ≡ false → most_lent < length mask → why ≡ 2
  unfolding windows_refusal first
  refuses_2 e h = rw (e, lt-ltb most_lent (length mask) h)

  module _ (e : uneven ≡ false) (h : length mask ≤ most_lent) where
    pub refuses_8 : any beyond times ≡ true → why ≡ 8
    unfolding windows_refusal first
    refuses_8 t = rw (e, le-ltb most_lent (length mask) h, t)

    pub refuses_14 : any beyond times ≡ false → (any bad_mark mask || any bad_severity severities) ≡ true → why ≡ 14
    unfolding windows_refusal first
    refuses_14 t m = rw (e, le-ltb most_lent (length mask) h, t, m)

    pub refuses_7 : any beyond times ≡ false → (any bad_mark mask || any bad_severity severities) ≡ false → short ≡ true → why ≡ 7
    unfolding windows_refusal first
    refuses_7 t m s = rw (e, le-ltb most_lent (length mask) h, t, m, s)

    pub accepts : any beyond times ≡ false → (any bad_mark mask || any bad_severity severities) ≡ false → short ≡ false → why ≡ 0
    unfolding windows_refusal first
    accepts t m s = rw (e, le-ltb most_lent (length mask) h, t, m, s)

-- ---- *Expand*, accepted

pub expand_accepts : (firsts lasts times : List ℤ) (places : ℕ) → length lasts ≡ length firsts → length firsts ≤ most_lent → length times ≤ most_lent
    → any beyond firsts ≡ false → any beyond lasts ≡ false → any beyond times ≡ false → length times ≤ places → expand_refusal firsts lasts times places ≡ 0
unfolding expand_refusal first differ any
expand_accepts firsts lasts times places e n m a b c h =
    rw (eq-eqb (length lasts) (length firsts) e, le-ltb most_lent (length firsts) n, le-ltb most_lent (length times) m, a, b, c, le-ltb places (length times) h)
