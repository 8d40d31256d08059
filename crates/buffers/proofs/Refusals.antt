-- Laws of refusals: a step along a chain of conditions, back from an accepted call to what it knows, and how large a number can be. Assumes nothing.
use mathlib.Core.Path.{◌≡◌, refl, sym, ap, ◌∙◌}
use mathlib.Core.Bool.{Bool, true, false, cond, not, ◌&&◌}
use mathlib.Core.List.{[], ◌∷◌}
use Prim.Native.Nat.{ℕ, zero, suc, ◌<◌}
use native.Mathlib.Omega.{arith}
use lib.Dec.{ltb}
use borrow.Author.Tests.{ne_eqb, ltb-true}
use Rattle.std.specs.Prelude.{Ok, Err}
use Rattle.buffers.specs.Refusal.{Conditions, first, carried, refused, accepted, reply, unless_refused, number_of, replied, found}
use Rattle.buffers.specs.declared.reasons.Refusal.{Refusal}
use Rattle.buffers.specs.declared.reasons.Refusal.TheVariants as why
use Rattle.buffers.proofs.Tests.{and_left, and_right}

-- no condition is left
pub first_none : first [] ≡ 0
unfolding first
first_none = refl

-- this condition holds
pub first_here : (b : Bool) (n : ℕ) (cs : Conditions) → b ≡ true → first ((b, n) ∷ cs) ≡ n
unfolding first
first_here b n cs e = ap (λ (t : Bool). cond t n (first cs)) e

-- this condition does not hold
pub first_skip : (b : Bool) (n : ℕ) (cs : Conditions) → b ≡ false → first ((b, n) ∷ cs) ≡ first cs
unfolding first
first_skip b n cs e = ap (λ (t : Bool). cond t n (first cs)) e

-- a chain that refuses nothing: neither does its first condition hold, nor a later one
pub first_clear : (b : Bool) (n : ℕ) (cs : Conditions) → 0 < n → first ((b, n) ∷ cs) ≡ 0 → (b ≡ false) × (first cs ≡ 0)
unfolding first
first_clear true n cs h e = absurd (omega arith)
first_clear false n cs h e = (refl, e)

-- a refusal carried in: it is given, or the rest decides, or, of a chain that refuses nothing, it was none; where it is the last it is the answer
pub carried_here : (k : ℕ) (cs : Conditions) → 0 < k → first (carried k ∷ cs) ≡ k
unfolding first carried
carried_here k cs h = ap (λ (t : Bool). cond (not t) k (first cs)) (ne_eqb k 0 (omega arith))

pub carried_skip : (k : ℕ) (cs : Conditions) → k ≡ 0 → first (carried k ∷ cs) ≡ first cs
unfolding first carried
carried_skip k cs e = ap (λ (n : ℕ). first (carried n ∷ cs)) e

pub carried_clear : (k : ℕ) (cs : Conditions) → first (carried k ∷ cs) ≡ 0 → (k ≡ 0) × (first cs ≡ 0)
carried_clear zero cs e = (refl, sym (carried_skip 0 cs refl) ∙ e)
carried_clear (suc k) cs e = absurd (omega (arith, carried_here (suc k) cs (omega arith)))

pub carried_last : (k : ℕ) → first (carried k ∷ []) ≡ k
carried_last zero = carried_skip 0 [] refl ∙ first_none
carried_last (suc k) = carried_here (suc k) [] (omega arith)

-- of a whole list: a chain that refuses nothing has no condition that holds, where every number is one of document 01's and not 0
abbrev pub Clear : Conditions → Type 0
Clear [] = Unit {0}
Clear (c ∷ cs) = (c.0 ≡ false) × Clear cs

abbrev pub numbered : Conditions → Bool
numbered [] = true
numbered (c ∷ cs) = ltb 0 c.1 && numbered cs

pub first_clears : (cs : Conditions) → numbered cs ≡ true → first cs ≡ 0 → Clear cs
first_clears [] n e = tt
first_clears ((b, k) ∷ cs) n e =
    let h : 0 < k = ltb-true 0 k (and_left (ltb 0 k) (numbered cs) n) in
    let r = first_clear b k cs h e in
    (r.0, first_clears cs (and_right (ltb 0 k) (numbered cs) n) r.1)

-- each number of a chain is below n: so is the one that it gives
abbrev pub AllBelow : ℕ → Conditions → Type 0
AllBelow n [] = Unit {0}
AllBelow n (c ∷ cs) = (c.1 < n) × AllBelow n cs

pub given_below : (n : ℕ) (cs : Conditions) → 0 < n → AllBelow n cs → first cs < n
unfolding first
given_below n [] h b = h
given_below n ((true, k) ∷ cs) h b = b.0
given_below n ((false, k) ∷ cs) h b = given_below n cs h b.1

module _ {A : Type 0} where
  pub reply_none : (k : ℕ) (a : A) → k ≡ 0 → reply k a ≡ accepted a
  unfolding reply
  reply_none k a e = ap (λ (n : ℕ). reply n a) e

  pub reply_some : (k : ℕ) (a : A) → 0 < k → reply k a ≡ refused k
  unfolding reply
  reply_some zero a h = absurd (omega arith)
  reply_some (suc k) a h = refl

  -- an accepted call had no refusal, and this is its answer
  pub reply_accepted : (k : ℕ) (a b : A) → reply k a ≡ accepted b → (k ≡ 0) × (a ≡ b)
  unfolding reply
  reply_accepted zero a b e = (refl, cc)
  reply_accepted (suc k) a b e = (cc, cc)

  pub written_none : (k : ℕ) (w b : A) → k ≡ 0 → unless_refused k w b ≡ w
  unfolding unless_refused
  written_none k w b e = ap (λ (n : ℕ). unless_refused n w b) e

  pub written_some : (k : ℕ) (w b : A) → 0 < k → unless_refused k w b ≡ b
  unfolding unless_refused
  written_some zero w b h = absurd (omega arith)
  written_some (suc k) w b h = refl

-- ---- the answer that a call makes, by the refusal that it found

-- no refusal has the number 0
pub number_positive : (e : Refusal) → 0 < number_of e
number_positive (why.LengthsDoNotFit) = omega arith
number_positive (why.TooLarge) = omega arith
number_positive (why.RollCountOutOfRange) = omega arith
number_positive (why.PositionOutOfRange) = omega arith
number_positive (why.TargetOutOfRange) = omega arith
number_positive (why.PanelOutOfRange) = omega arith
number_positive (why.OutputTooShort) = omega arith
number_positive (why.TimeOutOfRange) = omega arith
number_positive (why.NoSuchIndex) = omega arith
number_positive (why.ChunkHasLine) = omega arith
number_positive (why.JournalNotRight) = omega arith
number_positive (why.JournalTorn) = omega arith
number_positive (why.JournalNotEmpty) = omega arith
number_positive (why.SampleInvalid) = omega arith
number_positive (why.ChunkLacksLine) = omega arith
number_positive (why.RadecOutOfRange) = omega arith
number_positive (why.ToleranceCountDiffers) = omega arith
number_positive (why.RollTableLength) = omega arith
number_positive (why.RollTableEntry) = omega arith
number_positive (why.TargetNotUnit) = omega arith

-- a result's number and reply, case by case
pub of_result : {A : Type 0} (a : A) (e : Refusal) → (found (Ok a) ≡ 0) × (found {A = A} (Err e) ≡ number_of e) × (replied (Ok a) ≡ accepted a) × (replied {A = A} (Err e) ≡ refused (number_of e))
of_result a e = (refl, refl, refl, refl)

module _ {A : Type 0} where
  -- a call answers with the refusal that was found, or, where none was, with its own answer
  pub err_replied : (e : Refusal) (k : ℕ) (a : A) → number_of e ≡ k → replied (Err e) ≡ reply k a
  err_replied e k a h =
      let p : 0 < k = omega (arith, number_positive e, h) in
      ap refused h ∙ sym (reply_some k a p)

  pub ok_replied : (k : ℕ) (a b : A) → 0 ≡ k → a ≡ b → replied (Ok a) ≡ reply k b
  ok_replied k a b h e = ap accepted e ∙ sym (reply_none k b (sym h))

  -- what a lent list holds: what it held before, or what was written
  pub err_unless : (e : Refusal) (k : ℕ) (written before : A) → number_of e ≡ k → before ≡ unless_refused k written before
  err_unless e k w b h =
      let p : 0 < k = omega (arith, number_positive e, h) in
      sym (written_some k w b p)

  pub ok_unless : (k : ℕ) (written before now : A) → 0 ≡ k → now ≡ written → now ≡ unless_refused k written before
  ok_unless k w b now h e = e ∙ sym (written_none k w b (sym h))

-- the same from the call's side
pub refused_with : (e : Refusal) (why n : ℕ) → why ≡ number_of e → replied (Err e) ≡ reply why n
refused_with e why n h = err_replied e why n (sym h)

pub accepted_with : (m why n : ℕ) → why ≡ 0 → m ≡ n → replied (Ok m) ≡ reply why n
accepted_with m why n e h = ok_replied why m n (sym e) h
