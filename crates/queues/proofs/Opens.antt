-- What each way through the queue's side of an opening gives: refusals 1 and 3, and the table's reply flow by flow.
-- Assumes nothing.
use Rattle.std.proofs.Common.{zero-add, Iter, Bor, Option, Some, None, ◌≡◌, ℕ, suc, ◌+◌, ◌-◌, ◌*◌, ◌<◌, ◌≤◌, Bool, true, false, cond, not, ◌&&◌, eqb, leb, List, [], length, get_or, sym, ap, ◌∙◌, ap₂, add-one, arith, eqb-true, le-leb}
use native.Mathlib.Nat.{sub-zero}
use borrow.Author.Tests.{not-true, not-false, lt-leb}
use Rattle.std.specs.List.{enumerate_from, zip}
use Rattle.std.proofs.lemmas.List.FromFn.{length-enumerate_from, get_or-enumerate_from}
use Rattle.std.proofs.lemmas.Slice.Zip.{length-zip, get_or-zip}
use Rattle.std.specs.declared.iter.Enumerate.{Enumerate}
use Rattle.std.specs.declared.iter.Zip.{Zip}
use Rattle.std.specs.Iterator.{Yields}
use Rattle.std.specs.Iterator.Adapters.{enumerate_steps}
use Rattle.std.proofs.iter.Yields.{fronts}
use Rattle.std.proofs.lemmas.Iterator.{zips, YieldsList, YieldsList-from_slice, YieldsList-from_zip}
use Rattle.std.proofs.lemmas.Iterator.Consumers.{YieldsList-from_enumerate, YieldsList-turn, YieldsList-end}
use Rattle.std.proofs.lemmas.List.{get_or_default}
use Rattle.below.specs.Below.{sum_below_none, sum_below_more}
use Rattle.below.specs.Truth.{both_true}
use Rattle.cost.specs.Cost.{within, within_bounds}
use Rattle.reply.specs.Reply.{Reply, done, refused}
use Rattle.queues.specs.Queue.{Queue}
use Rattle.queues.specs.Queues.{shares_of}
use Rattle.queues.specs.Places.{lent}
use Rattle.queues.specs.Opening.{new_queues, paired, fault_from, table_reply, lists_reply}
use Rattle.queues.specs.Laws.{opened_at}

-- the table's turns: each flow's number, share and largest packet
abbrev pub turns : List ℕ → List ℕ → List (ℕ × (ℕ × ℕ))
turns shares largest = enumerate_from 0 (zip shares largest)

-- what a turn has is the flow's
pub record Turn (shares largest : List ℕ) (n f share packet : ℕ) : Type 0 where
  pub below : n < length shares
  pub flow : f ≡ n
  pub share_is : share ≡ get_or shares n 0
  pub packet_is : packet ≡ get_or largest n 0

pub turn_of : (shares largest : List ℕ) (n f share packet : ℕ) → length shares ≡ length largest
    → (n < length (turns shares largest))
    × ((f, (share, packet)) ≡ get_or (turns shares largest) n (f, (share, packet)))
    → Turn shares largest n f share packet
turn_of shares largest n f share packet same (h, e) =
    let all : length (turns shares largest) ≡ length shares =
    length-enumerate_from 0 (zip shares largest) ∙ length-zip shares largest ∙ omega arith in
    let few : n < length shares = omega arith in
    let pair : (f, (share, packet)) ≡ (n, (get_or shares n share, get_or largest n packet)) =
    e ∙ get_or-enumerate_from 0 (zip shares largest) n (f, (share, packet)) (omega (arith, length-zip shares largest))
    ∙ ap₂ (λ i (p : ℕ × ℕ). (i, p)) (zero-add n) (get_or-zip shares largest n (share, packet) few (omega arith)) in
    record {
      below = few;
      flow = ap (λ (p : ℕ × (ℕ × ℕ)). p.0) pair;
      share_is = ap (λ (p : ℕ × (ℕ × ℕ)). p.1.0) pair ∙ get_or_default shares n share 0 few;
      packet_is = ap (λ (p : ℕ × (ℕ × ℕ)). p.1.1) pair ∙ get_or_default largest n packet 0 (omega arith);
    }

-- the loop over the table, begun at s
module _ (shares largest : List ℕ) (s : Enumerate (Zip (Iter ℕ) (Iter ℕ))) (first : s.iter.a.rest.now ≡ shares)
    (second : s.iter.b.rest.now ≡ largest) (none : s.count ≡ 0) (same : length shares ≡ length largest)
    (xs : List (ℕ × (Bor ℕ × Bor ℕ))) (t u : Enumerate (Zip (Iter ℕ) (Iter ℕ)))
    (so_far : Yields (enumerate_steps (zips fronts fronts)) s xs t) (r : Option (ℕ × (Bor ℕ × Bor ℕ)))
    (step : enumerate_steps (zips fronts fronts) t r u) where
  road : YieldsList (enumerate_steps (zips fronts fronts)) (λ p. (p.0, (p.1.0.now, p.1.1.now))) s (turns shares largest)
  road = YieldsList-from_enumerate
      (YieldsList-from_zip (YieldsList-from_slice shares first) (YieldsList-from_slice largest second)) none

  -- each turn of it
  pub turn_here : (x : ℕ × (Bor ℕ × Bor ℕ)) → r ≡ Some x → Turn shares largest (length xs) x.0 x.1.0.now x.1.1.now
  turn_here x is = turn_of shares largest (length xs) x.0 x.1.0.now x.1.1.now same
      (YieldsList-turn road xs t so_far r u x is step)

  -- and its end
  pub turns_end : r ≡ None → length xs ≡ length shares
  turns_end is = (YieldsList-end road xs t so_far r u is step).1 ∙ length-enumerate_from 0 (zip shares largest)
      ∙ length-zip shares largest ∙ omega arith

-- the flows before f are in range, and `sum` is the sum of their shares
pub record Passed (shares largest : List ℕ) (sum f : ℕ) : Type 0 where
  pub reached : f ≤ length shares
  pub faults : fault_from shares largest 0 (length shares) ≡ fault_from shares largest f (length shares - f)
  pub summed : sum ≡ shares_of (new_queues shares largest) f
  pub small : sum ≤ 1000 * f

-- the share and the largest packet of flow f are in range
abbrev pub in_share : List ℕ → ℕ → Bool
in_share shares f = within 1 1000 (get_or shares f 0)

abbrev pub in_largest : List ℕ → ℕ → Bool
in_largest largest f = within 1 1500 (get_or largest f 0)

-- what the rule says at a flow whose numbers are in range or not, and of the flows behind it
abbrev turn : Bool → Bool → ℕ → Reply → Reply
turn share largest f behind = cond share (cond largest behind (refused 5 f)) (refused 4 f)

module _ (shares largest : List ℕ) where
  pub passed_none : Passed shares largest 0 0
  unfolding shares_of
  passed_none =
      record { reached = omega arith; faults = rw sub-zero; summed = sym (sum_below_none _); small = omega arith }

  fault_at : (f : ℕ) → f < length shares
      → fault_from shares largest f (length shares - f)
      ≡ turn (in_share shares f) (in_largest largest f) f (fault_from shares largest (f + 1) (length shares - (f + 1)))
  unfolding fault_from
  fault_at f h = let e : length shares - f ≡ suc (length shares - suc f) = omega arith in rw (e, add-one)

  sum_more : (sum f : ℕ) → sum ≡ shares_of (new_queues shares largest) f → f < 64
      → sum + get_or shares f 0 ≡ shares_of (new_queues shares largest) (f + 1)
  unfolding shares_of
  sum_more sum f e h =
      ap₂ ◌+◌ e (sym (ap (λ (w : Queue). w.share) (opened_at shares largest f h))) ∙ sym (sum_below_more _ f)

  -- a turn of the loop over the table, with what it finds
  module _ (sum n : ℕ) (p : Passed shares largest sum n) (f share packet : ℕ)
      (t : Turn shares largest n f share packet) where
    pub passed_more : length shares ≤ 64 → within 1 1000 share ≡ true → within 1 1500 packet ≡ true
        → Passed shares largest (sum + share) (n + 1)
    passed_more few s l =
        record {
          reached = omega (arith, t.below);
          faults = p.faults ∙ fault_at n t.below ∙ rw (← t.share_is, s, ← t.packet_is, l);
          summed = ap (λ q. sum + q) t.share_is ∙ sum_more sum n p.summed (omega (arith, t.below));
          small = omega (arith, p.small, within_bounds 1 1000 share s);
        }

    pub share_refused : within 1 1000 share ≡ false → refused 4 f ≡ table_reply shares largest
    unfolding table_reply
    share_refused s = rw (t.flow, p.faults, fault_at n t.below, ← t.share_is, s)

    pub largest_refused : within 1 1000 share ≡ true → within 1 1500 packet ≡ false
        → refused 5 f ≡ table_reply shares largest
    unfolding table_reply
    largest_refused s l = rw (t.flow, p.faults, fault_at n t.below, ← t.share_is, s, ← t.packet_is, l)

  -- all flows passed
  passed_all : (sum f : ℕ) → Passed shares largest sum f → f ≡ length shares
      → table_reply shares largest ≡ cond (leb sum 1000) (done []) (refused 6 0)
  unfolding table_reply fault_from
  passed_all sum f p e = let d : length shares - f ≡ 0 = omega arith in rw (p.faults, d, ← e, ← p.summed)

  pub sum_refused : (sum f : ℕ) → Passed shares largest sum f → f ≡ length shares → 1000 < sum
      → refused 6 0 ≡ table_reply shares largest
  sum_refused sum f p h l = rw (passed_all sum f p h, lt-leb sum 1000 l)

  pub table_done : (sum f : ℕ) → Passed shares largest sum f → f ≡ length shares → sum ≤ 1000
      → done [] ≡ table_reply shares largest
  table_done sum f p h l = rw (passed_all sum f p h, le-leb sum 1000 l)

-- the ways through 1, 3 and the table's reply
module _ (shares largest : List ℕ) (header : ℕ) (lengths handles : List ℕ) where
  pub unlent : (b : Bool) → b ≡ lent lengths handles → not b ≡ true
      → refused 1 0 ≡ lists_reply shares largest header lengths handles
  unfolding lists_reply
  unlent b e h = rw (← e, not-true b h)

  module _ (b : Bool) (e : b ≡ lent lengths handles) (on : not b ≡ false) where
    pub unpaired : not (paired shares largest header) ≡ true → refused 3 0 ≡ lists_reply shares largest header lengths handles
    unfolding lists_reply
    unpaired h = rw (← e, not-false b on, not-true (paired shares largest header) h)

    pub as_the_table : (r : Reply) → not (paired shares largest header) ≡ false → r ≡ table_reply shares largest
        → r ≡ lists_reply shares largest header lengths handles
    unfolding lists_reply
    as_the_table r h q = rw (← e, not-false b on, not-false (paired shares largest header) h) q

pub paired_lists : (shares largest : List ℕ) (header : ℕ) → not (paired shares largest header) ≡ false
    → (length shares ≡ length largest) × (length shares ≤ 64)
paired_lists shares largest header e =
    let pair = (both_true (eqb (length shares) (length largest) && within 1 64 (length shares)) _
    (not-false (paired shares largest header) e)).0 in
    let b = both_true (eqb (length shares) (length largest)) _ pair in
    (eqb-true _ _ b.0, (within_bounds 1 64 (length shares) b.1).1)

-- what each way through an opening gives
pub ruleset opening_ways = (unlent, unpaired, as_the_table, paired_lists)
