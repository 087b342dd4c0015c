-- A turn of each loop of the form test, what its chains give, and how the parts of the queue's side make the whole.
-- Assumes nothing.
use Rattle.std.proofs.Math.Seq.{take-suc}
use Rattle.std.proofs.lemmas.List.Sums.{fold-append}
use Rattle.std.specs.Bool.{MatchBool}
use Rattle.std.specs.List.{AllWithin, HoldsAt, range_with_len, sum}
use Rattle.std.proofs.lemmas.List.FromFn.{length-range_with_len, get_or-range_with_len}
use Rattle.std.proofs.Common.{zero-add, ◌≡◌, ℕ, zero, suc, [], ◌∷◌, ◌+◌, ◌-◌, ◌%◌, ◌<◌, ◌≤◌, max, Bool, true, false, ◌&&◌, ◌||◌, eqb, ltb, leb, List, length, take, get_or, sym, refl, ap, ◌∙◌, ap₂, arith}
use lib.Bits.{bit_or}
use Rattle.below.specs.Below.{all_below_of, sum_below, all_below, most_below_none, all_below_at, sum_below, most_below, most_below_more}
use Rattle.below.specs.Faults.{all_left, four_faults, not_over, fault_turn, rest_none, rest_turn, both_below}
use Rattle.cost.specs.Cost.{within, cost_of}
use Rattle.cost.specs.Charge.{is_header, charge_of, charge_ticks}
use Rattle.queues.specs.Queue.{booked_ticks}
use Rattle.queues.specs.Queues.{queue_at, shares_of, width_of}
use Rattle.queues.specs.Form.{booked, placed, ranged, queue_formed, spare_queue, tabled, queues_formed, queues_spare}
use Rattle.queues.specs.Form.{queue_side}
use Rattle.queues.specs.Laws.{Ranged, ranged_out}
use Rattle.queues.specs.Placed.{Placed, Shared}
use Rattle.queues.specs.declared.Queues.{Queues}
use Rattle.queues.proofs.Forming.{one_fault, all_none}

module _ (q : Queues) where
  abbrev pub ranged_at : ℕ → Bool
  ranged_at f = ranged (queue_at q f)

  -- a turn of the test of the ranges
  pub ranges_turn : (i wrong a b c d : ℕ) → get_or q.share i 0 < 65536 → get_or q.largest i 0 < 65536
      → a ≡ (get_or q.share i 0 + 65535) % 65536 - 999
      → b ≡ (get_or q.largest i 0 + 65535) % 65536 - 1499
      → c ≡ get_or q.first i 0 - 63 → d ≡ get_or q.waiting i 0 - 64
      → eqb wrong 0 ≡ all_below ranged_at i
      → eqb (bit_or wrong (bit_or (bit_or a b) (bit_or c d))) 0 ≡ all_below ranged_at (i + 1)
  unfolding ranged
  ranges_turn i wrong a b c d share largest ea eb ec ed all =
      fault_turn ranged_at i wrong (bit_or (bit_or a b) (bit_or c d)) all
      (four_faults a b c d ∙ ap₂ ◌&&◌
      (ap₂ ◌&&◌
      (ap (λ n. eqb n 0) ea ∙ one_fault (get_or q.share i 0) 1000 share (omega arith) (omega arith))
      (ap (λ n. eqb n 0) eb ∙ one_fault (get_or q.largest i 0) 1500 largest (omega arith) (omega arith)))
      (ap₂ ◌&&◌
      (ap (λ n. eqb n 0) ec ∙ not_over (get_or q.first i 0) 63)
      (ap (λ n. eqb n 0) ed ∙ not_over (get_or q.waiting i 0) 64)))

  module _ (flows : ℕ) (b : Bool) (e : b ≡ all_below ranged_at flows) (h : b ≡ true) where
    range_at : (f : ℕ) → f < flows → Ranged (queue_at q f)
    range_at f l = ranged_out (queue_at q f) (all_below_at ranged_at flows (sym e ∙ h) f l)

    -- queues in range stand at their own places
    pub all_placed : Placed q flows
    all_placed = record {
      each = λ f l. let w = range_at f l in
          record { largest_low = w.largest_low; first_below = w.first_below; waiting_most = w.waiting_most };
    }

    -- and their shares are shares
    pub all_shared : Shared q.share flows
    all_shared = record { each = λ f l. ((range_at f l).share_low, (range_at f l).share_high) }

  abbrev pub spare_at : ℕ → Bool
  spare_at f = spare_queue (queue_at q f)

  -- of flow f, where it does not count
  abbrev pub spare_from : ℕ → ℕ → Bool
  spare_from flows f = ltb f flows || spare_at f

  pub spare_none : (flows : ℕ) → true ≡ all_below (spare_from flows) flows
  spare_none flows = rest_none flows spare_at

  -- a turn of the test of the flows that do not count
  pub spare_turn : (flows i any : ℕ) → flows ≤ i → eqb any 0 ≡ all_below (spare_from flows) i
      → eqb
      (bit_or any
      (bit_or (bit_or (get_or q.share i 0) (get_or q.largest i 0)) (bit_or (get_or q.first i 0) (get_or q.waiting i 0)))) 0
      ≡ all_below (spare_from flows) (i + 1)
  unfolding spare_queue
  spare_turn flows i any h all = rest_turn flows spare_at i any
      (bit_or (bit_or (get_or q.share i 0) (get_or q.largest i 0)) (bit_or (get_or q.first i 0) (get_or q.waiting i 0))) h
      (four_faults (get_or q.share i 0) (get_or q.largest i 0) (get_or q.first i 0) (get_or q.waiting i 0)) all

-- the queue of flow f is well formed
abbrev pub formed_at : Queues → List ℕ → ℕ → Bool
formed_at q lengths f = queue_formed f lengths (queue_at q f)

-- a turn of the leap width
module _ (header : ℕ) (share largest : List ℕ) where
  abbrev pub ticks_at : ℕ → ℕ
  ticks_at f = booked_ticks header (get_or share f 0) (get_or largest f 0)

  pub width_turn : (n width cost ticks next : ℕ) → width ≡ most_below ticks_at n → cost ≡ cost_of (get_or share n 0)
      → ticks ≡ charge_ticks cost (charge_of header (get_or largest n 0)) → next ≡ max width ticks → next ≡ most_below ticks_at (n + 1)
  width_turn n width cost ticks next e p q m = rw (most_below_more, ← e, ← p, ← q) m

-- what `all` of the numbers below n gives
pub all_asked : (p : ℕ → Bool) (n : ℕ) (r : Bool)
    → MatchBool r (AllWithin (λ k. p k ≡ true) (range_with_len 0 n) 0 (length (range_with_len 0 n)))
    ((k : ℕ) × (k < length (range_with_len 0 n)) × HoldsAt (λ k. p k ≡ false) (range_with_len 0 n) k)
    → r ≡ all_below p n
all_asked p n true h = sym (all_below_of p n λ k l.
    let e : get_or (range_with_len 0 n) k 0 ≡ k = get_or-range_with_len 0 n k 0 l ∙ zero-add k in
    ap p (sym e) ∙ h k 0 (omega arith) (rw length-range_with_len l))
all_asked p n false (k, l, h) =
    let m : k < n = rw length-range_with_len at l in
    let e : get_or (range_with_len 0 n) k 0 ≡ k = get_or-range_with_len 0 n k 0 m ∙ zero-add k in
    all_left p k n false m (sym (ap p (sym e) ∙ h 0)) refl

-- the sum of the first entries of a list
pub sum_first : (list : List ℕ) (n : ℕ) → n ≤ length list → sum (take n list) ≡ sum_below (λ f. get_or list f 0) n
unfolding sum_below
sum_first list zero h = refl
sum_first list (suc n) h =
    ap sum (take-suc list n 0 (omega arith)) ∙ fold-append ◌+◌ 0 (take n list) (get_or list n 0 ∷ [])
    ∙ ap (λ s. s + get_or list n 0) (sum_first list n (omega arith))

-- the bullets' order and the order of the test
regroup : (size book place queue sum width spare : Bool)
    → ((size && book && sum && width) && (place && queue) && spare)
    ≡ (size && (book && place) && queue && ((sum && width) && spare))
regroup false book place queue sum width spare = refl
regroup true false place queue sum width spare = refl
regroup true true true true true true spare = refl
regroup true true true true true false spare = refl
regroup true true true true false width spare = refl
regroup true true true false true true spare = refl
regroup true true true false true false spare = refl
regroup true true true false false width spare = refl
regroup true true false queue true true spare = refl
regroup true true false queue true false spare = refl
regroup true true false queue false width spare = refl

module _ (flows header width : ℕ) (q : Queues) (lengths : List ℕ) where
  abbrev ranges : Bool
  ranges = all_below (ranged_at q) flows

  abbrev queued : Bool
  queued = all_below (λ f. queue_formed f lengths (queue_at q f)) flows

  abbrev sums : Bool
  sums =
      leb (sum_below (λ f. get_or q.share f 0) flows) 1000
      && eqb (most_below (ticks_at header q.share q.largest) flows) width

  -- the whole, in the order of the test
  tested : queue_side flows header width q lengths
      ≡ ((within 1 64 flows && is_header header) && ranges && queued && (sums && queues_spare flows q))
  unfolding tabled queues_formed ranged shares_of width_of
  tested =
      ap (λ b. tabled flows header width q && b && queues_spare flows q)
      (sym (both_below (λ f. placed (queue_at q f)) (λ f. queue_formed f lengths (queue_at q f)) flows))
      ∙ regroup (within 1 64 flows && is_header header) (all_below (λ f. booked (queue_at q f)) flows)
      (all_below (λ f. placed (queue_at q f)) flows) queued
      (leb (sum_below (λ f. get_or q.share f 0) flows) 1000)
      (eqb (most_below (ticks_at header q.share q.largest) flows) width) (queues_spare flows q)
      ∙ ap (λ b. (within 1 64 flows && is_header header) && b && queued && (sums && queues_spare flows q))
      (both_below (λ f. booked (queue_at q f)) (λ f. placed (queue_at q f)) flows)

  abbrev sized : Bool
  sized = within 1 64 flows && is_header header

  pub sized_bad : sized ≡ false → false ≡ queue_side flows header width q lengths
  sized_bad h = sym (tested ∙ rw h)

  module _ (size : sized ≡ true) (b : Bool) (e : b ≡ ranges) where
    pub ranges_bad : b ≡ false → false ≡ queue_side flows header width q lengths
    ranges_bad h = sym (tested ∙ rw (size, ← e, h))

    module _ (placed : b ≡ true) (c : Bool) (k : c ≡ queued) where
      pub queued_bad : c ≡ false → false ≡ queue_side flows header width q lengths
      queued_bad t = sym (tested ∙ rw (size, ← e, placed, ← k, t))

      pub as_the_rest : (d : Bool) (total most : ℕ) → c ≡ true
          → flows ≤ length q.share → total ≡ sum (take flows q.share)
          → most ≡ most_below (ticks_at header q.share q.largest) flows → d ≡ queues_spare flows q
          → ((leb total 1000 && eqb most width) && d) ≡ queue_side flows header width q lengths
      as_the_rest d total most t l s m r =
          sym (tested ∙ rw (size, ← e, placed, ← k, t, ← sum_first q.share flows l, ← s, ← m, ← r))

-- what each way through the test of the queue's side gives
pub ruleset side_ways = (sized_bad, ranges_bad, queued_bad, as_the_rest, all_placed, all_shared)

pub most_none : (g : ℕ → ℕ) → ◌≡◌ {A = ℕ} 0 (most_below g 0)
most_none g = sym (most_below_none g)

-- what each loop begins with, and a turn of it
pub ruleset loop_ways = (all_none, spare_none, most_none, ranges_turn, spare_turn, width_turn)
