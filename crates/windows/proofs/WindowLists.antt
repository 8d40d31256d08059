-- The windows of a listing, one after the other, and as they are written: what the loops that store windows ask. In order: the next window; what is
-- left when k are written; columns; what an accepted listing knows; its windows stored into columns, and into records; both listings. Assumes nothing.
use Rattle.std.proofs.Common.{◌≡◌, ℕ, zero, suc, ◌+◌, ◌-◌, ◌<◌, ◌≤◌, false, ◌||◌, eqb, List, [], ◌∷◌, ◌++◌, map, length, take, drop, set, ℤ, sym, refl, ap, ◌∙◌, subst, add-one, arith, length-drop, length-take-le, ltb-false, Option, Some, None, Ok, Err, MatchOption, IsSome}
use mathlib.Core.List.{map-append}
use lib.ListN.{length-map}
use lib.Seq.{take-length}
use lib.Ieee.{Float}
use Rattle.buffers.specs.Lent.{over}
use Rattle.buffers.specs.Refusal.{Reply, refused, accepted, reply, unless_refused, number_of, replied}
use Rattle.buffers.specs.declared.reasons.Refusal.{Refusal}
use Rattle.buffers.proofs.Tests.{flag_le, or_left, or_right}
use Rattle.buffers.proofs.Lent.{over_nil, over_next, length_over, over_more}
use Rattle.buffers.proofs.Refusals.{reply_accepted, err_replied, ok_replied, err_unless, ok_unless}
use Rattle.windows.specs.Runs.{Run, run}
use Rattle.windows.specs.Windows.{window_of, violation_windows, visibility_windows, Columns, written}
use Rattle.windows.specs.Refusal.{differ, lengths, no_room, windows_refusal, violation_refusal, visibility_refusal}
use Rattle.windows.specs.Steps.{severity_of, runs_left, windows_left, IsNextRun, uneven, listing_refusal, Row, Room, stored}
use Rattle.windows.specs.declared.Window.{Window}
use Rattle.windows.specs.declared.Listing.{Listing}
use Rattle.windows.specs.declared.Listing.TheVariants.{Violations, Visibility}
use Rattle.windows.proofs.NextRun.{violations_left, visibility_left}
use Rattle.windows.proofs.Refusals.{same_at, windows_accepted, refused_by}

-- ---- the next window

module _ (l : Listing) (mask : List ℕ) (times : List ℤ) (severities : List Float) where
  -- where windows are left, a run is found
  pub next_found : {X : Type 0} (P : X → Type 0) (from : ℕ) (r : Option X) → MatchOption r (runs_left l mask from ≡ []) P → 0 < length (windows_left l mask times severities from) → IsSome r
  unfolding windows_left
  next_found P from (Some x) h n = refl
  next_found P from None h n =
      let e : length (windows_left l mask times severities from) ≡ 0 = ap (λ (rs : List Run). length (map (window_of times (severity_of l severities)) rs)) h in
      let w : ⊥ = omega arith in absurd w

  -- and its window w is the next
  pub record NextWindow (from end : ℕ) (w : Window) : Type 0 where
    pub left : windows_left l mask times severities from ≡ w ∷ windows_left l mask times severities (w.last + 1)
    pub in_row : w.last < length mask
    pub flagged : w.is_last ≤ 1
    pub onward : w.last + 1 ≡ end

  pub next_is : (from first end : ℕ) (w : Window) → IsNextRun l mask from first end → w ≡ window_of times (severity_of l severities) (run first (end - 1)) → NextWindow from end w
  unfolding windows_left window_of
  next_is from first end w n p =
      let W : Run → Window = window_of times (severity_of l severities) in
      let g : w.last ≡ end - 1 = ap (λ (v : Window). v.last) p in
      let b : w.last + 1 ≡ end = omega (arith, n.some) in
      record {
        left = ap (map W) n.left ∙ ap (λ (v : Window). v ∷ map W (runs_left l mask end)) (sym p) ∙ ap (λ (k : ℕ). w ∷ map W (runs_left l mask k)) (sym b);
        in_row = omega (arith, n.within, n.some);
        flagged = subst (λ (k : ℕ). k ≤ 1) (sym (ap (λ (v : Window). v.is_last) p)) (flag_le (eqb (end - 1 + 1) (length times)));
        onward = b;
      }

  -- what its window asks
  pub run_fits : (from first end : ℕ) → IsNextRun l mask from first end → Row l mask times severities → (first ≤ end - 1) × (end - 1 < length times) × (l ≡ Violations → end - 1 < length severities)
  run_fits from first end n r = (omega (arith, n.some), omega (arith, n.some, n.within, r.timed), λ e. omega (arith, n.some, n.within, r.rated e))

-- ---- k windows are written, and the rest is left from sample `from` on

drop_head : {A : Type 0} (k : ℕ) (ws : List A) (w : A) (rest : List A) → drop k ws ≡ w ∷ rest → (drop (suc k) ws ≡ rest) × (take (suc k) ws ≡ take k ws ++ (w ∷ []))
drop_head zero ws w rest e = (ap (drop 1) e, ap (take 1) e)
drop_head (suc k) [] w rest e = let z : ◌≡◌ {A = ℕ} 0 (suc (length rest)) = ap length e in let q : ⊥ = omega arith in absurd q
drop_head (suc k) (x ∷ ws) w rest e = let r = drop_head k ws w rest e in (r.0, ap (λ t. x ∷ t) r.1)

module _ (l : Listing) (mask : List ℕ) (times : List ℤ) (severities : List Float) where
  abbrev left : ℕ → List Window
  left = windows_left l mask times severities

  pub record WindowsPassed (k from : ℕ) : Type 0 where
    pub in_row : from ≤ length mask
    pub left : windows_left l mask times severities from ≡ drop k (windows_left l mask times severities 0)

  pub passed_none : WindowsPassed 0 0
  passed_none = record { in_row = omega arith; left = refl }

  pub some_left : (k from : ℕ) → WindowsPassed k from → k < length (left 0) → 0 < length (left from)
  some_left k from r h = rw (r.left, length-drop k (left 0)) (omega arith)

  pub passed_next : (k from : ℕ) (w : Window) → WindowsPassed k from → left from ≡ w ∷ left (w.last + 1) → w.last < length mask → WindowsPassed (k + 1) (w.last + 1)
  passed_next k from w r e h = record {
    in_row = omega arith;
    left = sym (ap (λ (j : ℕ). drop j (left 0)) (add-one k) ∙ (drop_head k (left 0) w (left (w.last + 1)) (sym r.left ∙ e)).0);
  }

  pub taken_next : (k from : ℕ) (w : Window) → WindowsPassed k from → left from ≡ w ∷ left (w.last + 1) → take (k + 1) (left 0) ≡ take k (left 0) ++ (w ∷ [])
  taken_next k from w r e = ap (λ (j : ℕ). take j (left 0)) (add-one k) ∙ (drop_head k (left 0) w (left (w.last + 1)) (sym r.left ∙ e)).1

-- ---- columns

column_next : {A : Type 0} (f : Window → A) (t : List Window) (w : Window) (k : ℕ) (old : List A) → length t ≡ k → k < length old → set (over (map f t) old) k (f w) ≡ over (map f (t ++ (w ∷ []))) old
column_next f t w k old e h =
    over_next (map f t) old k (f w) (sym (length-map t f ∙ e)) h ∙ ap (λ (m : List _). over m old) (sym (map-append f t (w ∷ [])))

column_length : {A : Type 0} (f : Window → A) (t : List Window) (n : ℕ) (old : List A) → length t ≤ n → n ≤ length old → length (over (map f t) old) ≡ length old
column_length f t n old h k = length_over (map f t) old (rw (length-map t f) (omega arith))

-- what is written leaves each column as long as it was
pub record SameLengths (d c : Columns) : Type 0 where
  pub first : length c.first ≡ length d.first
  pub last : length c.last ≡ length d.last
  pub first_time : length c.first_time ≡ length d.first_time
  pub last_time : length c.last_time ≡ length d.last_time
  pub severity : length c.severity ≡ length d.severity
  pub is_last : length c.is_last ≡ length d.is_last

module _ (t : List Window) (d c : Columns) (e : c ≡ written t d) where
  store_next : (k n : ℕ) (w : Window) (c' : Columns) → c' ≡ stored k w c → length t ≡ k → k < n → Room n d → c' ≡ written (t ++ (w ∷ [])) d
  unfolding written stored
  store_next k n w c' q p h room =
      q ∙ ap (stored k w) e ∙ (λ i. record {
        first = column_next (λ (v : Window). v.first) t w k d.first p (omega (arith, room.first)) i;
        last = column_next (λ (v : Window). v.last) t w k d.last p (omega (arith, room.last)) i;
        first_time = column_next (λ (v : Window). v.first_time) t w k d.first_time p (omega (arith, room.first_time)) i;
        last_time = column_next (λ (v : Window). v.last_time) t w k d.last_time p (omega (arith, room.last_time)) i;
        severity = column_next (λ (v : Window). v.severity) t w k d.severity p (omega (arith, room.severity)) i;
        is_last = column_next (λ (v : Window). v.is_last) t w k d.is_last p (omega (arith, room.is_last)) i;
      })

  pub same_lengths : (n : ℕ) → length t ≤ n → Room n d → SameLengths d c
  unfolding written
  same_lengths n h room = record {
    first = ap (λ (x : Columns). length x.first) e ∙ column_length (λ (v : Window). v.first) t n d.first h room.first;
    last = ap (λ (x : Columns). length x.last) e ∙ column_length (λ (v : Window). v.last) t n d.last h room.last;
    first_time = ap (λ (x : Columns). length x.first_time) e ∙ column_length (λ (v : Window). v.first_time) t n d.first_time h room.first_time;
    last_time = ap (λ (x : Columns). length x.last_time) e ∙ column_length (λ (v : Window). v.last_time) t n d.last_time h room.last_time;
    severity = ap (λ (x : Columns). length x.severity) e ∙ column_length (λ (v : Window). v.severity) t n d.severity h room.severity;
    is_last = ap (λ (x : Columns). length x.is_last) e ∙ column_length (λ (v : Window). v.is_last) t n d.is_last h room.is_last;
  }

  room_left : (k n : ℕ) → length t ≤ n → k ≤ n → Room n d → Room k c
  room_left k n h j room =
      let s : SameLengths d c = same_lengths n h room in
      record {
        first = omega (arith, s.first, room.first);
        last = omega (arith, s.last, room.last);
        first_time = omega (arith, s.first_time, room.first_time);
        last_time = omega (arith, s.last_time, room.last_time);
        severity = omega (arith, s.severity, room.severity);
        is_last = omega (arith, s.is_last, room.is_last);
      }

-- ---- what a listing that is accepted knows

-- count windows are listed into lists of these lengths
pub record Accepted (l : Listing) (mask : List ℕ) (times : List ℤ) (severities : List Float) (places : List ℕ) (count : ℕ) : Type 0 where
  pub clear : listing_refusal l mask times severities places ≡ 0
  pub all : count ≡ length (windows_left l mask times severities 0)
  pub row : Row l mask times severities
  pub even : differ places ≡ false
  pub room : no_room places count ≡ false

pub even_row : (l : Listing) (mask : List ℕ) (times : List ℤ) (severities : List Float) → uneven l mask times severities ≡ false → Row l mask times severities
unfolding uneven
even_row Violations mask times severities e = record { timed = same_at (length mask) (length times ∷ length severities ∷ []) 0 e (omega arith); rated = λ q. same_at (length mask) (length times ∷ length severities ∷ []) 1 e (omega arith) }
even_row Visibility mask times severities e = record { timed = same_at (length mask) (length times ∷ []) 0 e (omega arith); rated = λ q. cc }

module _ (l : Listing) (mask : List ℕ) (times : List ℤ) (severities : List Float) (places : List ℕ) where
  pub left_length : length (runs_left l mask 0) ≡ length (windows_left l mask times severities 0)
  unfolding windows_left
  left_length = sym (length-map (runs_left l mask 0) _)

  pub accepted_listing : (count : ℕ) → accepted count ≡ reply (listing_refusal l mask times severities places) (length (runs_left l mask 0)) → Accepted l mask times severities places count
  unfolding listing_refusal
  accepted_listing count e =
      let a = reply_accepted (listing_refusal l mask times severities places) (length (runs_left l mask 0)) count (sym e) in
      let f = windows_accepted (uneven l mask times severities || differ places) mask times severities (no_room places (length (runs_left l mask 0))) a.0 in
      record {
        clear = a.0;
        all = sym a.1 ∙ left_length;
        row = even_row l mask times severities (or_left (uneven l mask times severities) (differ places) f.even);
        even = or_right (uneven l mask times severities) (differ places) f.even;
        room = ap (no_room places) (sym a.1) ∙ f.room;
      }

  pub accepted_few : (count : ℕ) → Accepted l mask times severities places count → count ≤ length (windows_left l mask times severities 0)
  accepted_few count a = omega (arith, a.all)

  -- and a refused one: W says what would be left by writing a list of windows
  pub refused_listing : {A : Type 0} (W : List Window → A) (old : A) (e : Refusal) → refused (number_of e) ≡ reply (listing_refusal l mask times severities places) (length (runs_left l mask 0))
      → (replied {A = ℕ} (Err e) ≡ reply (listing_refusal l mask times severities places) (length (windows_left l mask times severities 0))) × (old ≡ unless_refused (listing_refusal l mask times severities places) (W (windows_left l mask times severities 0)) old)
  refused_listing W old e q =
      let k = refused_by (number_of e) (listing_refusal l mask times severities places) (length (runs_left l mask 0)) q in
      (err_replied e _ _ k, err_unless e _ _ _ k)

-- ---- k windows of a listing are stored into the columns d, which are then the columns c

-- columns that are equally long have room for as many windows as the first
pub even_room : (count : ℕ) (d : Columns) → differ (lengths d) ≡ false → no_room (lengths d) count ≡ false → Room count d
unfolding lengths no_room
even_room count d g f =
    let h : count ≤ length d.first = ltb-false (length d.first) count f in
    let ns : List ℕ = length d.last ∷ length d.first_time ∷ length d.last_time ∷ length d.severity ∷ length d.is_last ∷ [] in
    record {
      first = h;
      last = omega (arith, same_at (length d.first) ns 0 g (omega arith));
      first_time = omega (arith, same_at (length d.first) ns 1 g (omega arith));
      last_time = omega (arith, same_at (length d.first) ns 2 g (omega arith));
      severity = omega (arith, same_at (length d.first) ns 3 g (omega arith));
      is_last = omega (arith, same_at (length d.first) ns 4 g (omega arith));
    }

pub record Storing (l : Listing) (mask : List ℕ) (times : List ℤ) (severities : List Float) (k from : ℕ) (d c : Columns) : Type 0 where
  pub passed : WindowsPassed l mask times severities k from
  pub holds : c ≡ written (take k (windows_left l mask times severities 0)) d

module _ (l : Listing) (mask : List ℕ) (times : List ℤ) (severities : List Float) where
  pub storing_none : (d : Columns) → Storing l mask times severities 0 0 d d
  unfolding written over
  storing_none d = record { passed = passed_none l mask times severities; holds = refl }

  -- n windows are to be stored
  module _ (n k from : ℕ) (d c : Columns) (h : n ≤ length (windows_left l mask times severities 0)) (room : Room n d) (s : Storing l mask times severities k from d c) where
    done : k ≤ n → length (take k (left l mask times severities 0)) ≡ k
    done j = length-take-le k (left l mask times severities 0) (omega arith)

    pub storing_room : k < n → Room (k + 1) c
    storing_room j = room_left (take k (left l mask times severities 0)) d c s.holds (k + 1) n (omega (arith, done (omega arith))) (omega arith) room

    pub storing_next : k < n → (end : ℕ) (w : Window) (c' : Columns) → NextWindow l mask times severities from end w → c' ≡ stored k w c → Storing l mask times severities (k + 1) end d c'
    storing_next j end w c' x q = record {
      passed = subst (WindowsPassed l mask times severities (k + 1)) x.onward (passed_next l mask times severities k from w s.passed x.left x.in_row);
      holds =
          store_next (take k (left l mask times severities 0)) d c s.holds k n w c' q (done (omega arith)) j room
          ∙ ap (λ (t : List Window). written t d) (sym (taken_next l mask times severities k from w s.passed x.left));
    }

  -- which are all of an accepted listing
  module _ (n k from : ℕ) (d c : Columns) (ok : Accepted l mask times severities (lengths d) n) (s : Storing l mask times severities k from d c) where
    -- a window is left
    pub storing_more : k < n → 0 < length (windows_left l mask times severities from)
    storing_more j = some_left l mask times severities k from s.passed (omega (arith, ok.all))

    pub storing_all : n ≤ k → k ≤ n → (replied (Ok n) ≡ reply (listing_refusal l mask times severities (lengths d)) (length (windows_left l mask times severities 0)))
        × (c ≡ unless_refused (listing_refusal l mask times severities (lengths d)) (written (windows_left l mask times severities 0) d) d)
    storing_all i j =
        let e : k ≡ length (left l mask times severities 0) = omega (arith, ok.all) in (
          ok_replied _ _ _ (sym ok.clear) ok.all,
          ok_unless _ _ _ _ (sym ok.clear) (s.holds ∙ ap (λ (t : List Window). written t d) (ap (λ (m : ℕ). take m (left l mask times severities 0)) e ∙ take-length (left l mask times severities 0))),
        )

-- ---- and into the records ys, which are then the records zs

pub record StoringRecords (l : Listing) (mask : List ℕ) (times : List ℤ) (severities : List Float) (k from : ℕ) (ys zs : List Window) : Type 0 where
  pub passed : WindowsPassed l mask times severities k from
  pub holds : zs ≡ over (take k (windows_left l mask times severities 0)) ys

module _ (l : Listing) (mask : List ℕ) (times : List ℤ) (severities : List Float) where
  pub records_none : (ys : List Window) → StoringRecords l mask times severities 0 0 ys ys
  records_none ys = record { passed = passed_none l mask times severities; holds = over_nil ys }

  -- n windows are to be stored
  module _ (n k from : ℕ) (ys zs : List Window) (h : n ≤ length (windows_left l mask times severities 0)) (room : n ≤ length ys) (s : StoringRecords l mask times severities k from ys zs) where
    taken : k ≤ n → length (take k (left l mask times severities 0)) ≡ k
    taken j = length-take-le k (left l mask times severities 0) (omega arith)

    -- what the next window asks
    pub records_ask : Row l mask times severities → k < n → (from ≤ length mask) × Row l mask times severities × (0 < length (windows_left l mask times severities from))
    records_ask row j = (s.passed.in_row, row, some_left l mask times severities k from s.passed (omega (arith, h)))

    pub records_more : k < n → (w : Window) → left l mask times severities from ≡ w ∷ left l mask times severities (w.last + 1) → set zs k w ≡ over (take (k + 1) (windows_left l mask times severities 0)) ys
    records_more j w e =
        over_more zs (take k (left l mask times severities 0)) ys k w s.holds (taken (omega arith)) (omega arith)
        ∙ ap (λ (t : List Window). over t ys) (sym (taken_next l mask times severities k from w s.passed e))

    pub records_next : k < n → (w : Window) → (left l mask times severities from ≡ w ∷ left l mask times severities (w.last + 1)) × (w.last < length mask) → StoringRecords l mask times severities (k + 1) (w.last + 1) ys (set zs k w)
    records_next j w g = record { passed = passed_next l mask times severities k from w s.passed g.0 g.1; holds = records_more j w g.0 }

  -- which are all of an accepted listing
  module _ (n k from : ℕ) (ys zs : List Window) (ok : Accepted l mask times severities (length ys ∷ []) n) (s : StoringRecords l mask times severities k from ys zs) where
    pub records_fit : n ≤ length ys
    unfolding no_room
    records_fit = ltb-false (length ys) n ok.room

    -- a window is left
    pub records_some : k < n → 0 < length (windows_left l mask times severities from)
    records_some j = some_left l mask times severities k from s.passed (omega (arith, ok.all))

    pub records_all : n ≤ k → k ≤ n → (replied (Ok n) ≡ reply (listing_refusal l mask times severities (length ys ∷ [])) (length (windows_left l mask times severities 0)))
        × (zs ≡ unless_refused (listing_refusal l mask times severities (length ys ∷ [])) (over (windows_left l mask times severities 0) ys) ys)
    records_all i j =
        let e : k ≡ length (left l mask times severities 0) = omega (arith, ok.all) in (
          ok_replied _ _ _ (sym ok.clear) ok.all,
          ok_unless _ _ _ _ (sym ok.clear) (s.holds ∙ ap (λ (t : List Window). over t ys) (ap (λ (m : ℕ). take m (left l mask times severities 0)) e ∙ take-length (left l mask times severities 0))),
        )

-- ---- the two listings. What the calls answer and leave is shown of both at once, from what is said of each here

-- of the samples of a row a listing gives the windows ws and, lent places, refuses by `why`
pub record ListingGives (l : Listing) (mask : List ℕ) (times : List ℤ) (severities : List Float) (ws : List Window) (why : List ℕ → ℕ) : Type 0 where
  pub all : windows_left l mask times severities 0 ≡ ws
  pub refuses : (places : List ℕ) → listing_refusal l mask times severities places ≡ why places

module _ (mask : List ℕ) (times : List ℤ) where
  pub violations : (severities : List Float) → ListingGives Violations mask times severities (violation_windows mask times severities) (violation_refusal mask times severities)
  unfolding windows_left violation_windows severity_of violation_refusal listing_refusal uneven
  violations severities = record {
    all = ap (map (window_of times (severity_of Violations severities))) (violations_left mask);
    refuses = λ places. ap (λ rs. windows_refusal (differ (length mask ∷ length times ∷ length severities ∷ []) || differ places) mask times severities (no_room places (length rs))) (violations_left mask);
  }

  -- whatever the severities, at which a listing of visibility windows does not look
  pub visibility_all : (severities : List Float) → windows_left Visibility mask times severities 0 ≡ visibility_windows mask times
  unfolding windows_left visibility_windows severity_of
  visibility_all severities = ap (map (window_of times (severity_of Visibility severities))) (visibility_left mask)

  pub visibility : ListingGives Visibility mask times [] (visibility_windows mask times) (visibility_refusal mask times)
  unfolding visibility_refusal listing_refusal uneven
  visibility = record {
    all = visibility_all [];
    refuses = λ places. ap (λ rs. windows_refusal (differ (length mask ∷ length times ∷ []) || differ places) mask times [] (no_room places (length rs))) (visibility_left mask);
  }

-- W says what is left by writing a list of windows: all of it where the call is accepted, nothing where it is refused
module _ {l : Listing} {mask : List ℕ} {times : List ℤ} {severities : List Float} {ws : List Window} {why : List ℕ → ℕ} (k : ListingGives l mask times severities ws why) where
  pub listed : {A : Type 0} (W : List Window → A) (places : List ℕ) (r : Reply ℕ) (old c : A)
      → (r ≡ reply (listing_refusal l mask times severities places) (length (windows_left l mask times severities 0))) × (c ≡ unless_refused (listing_refusal l mask times severities places) (W (windows_left l mask times severities 0)) old)
      → (r ≡ reply (why places) (length ws)) × (c ≡ unless_refused (why places) (W ws) old)
  listed W places r old c h = (
    h.0 ∙ ap (λ (n : ℕ). reply n (length (windows_left l mask times severities 0))) (k.refuses places) ∙ ap (λ (t : List Window). reply (why places) (length t)) k.all,
    h.1 ∙ ap (λ (n : ℕ). unless_refused n (W (windows_left l mask times severities 0)) old) (k.refuses places) ∙ ap (λ (t : List Window). unless_refused (why places) (W t) old) k.all,
  )
