-- What an opening that is not refused was handed, and what its table then is: refusals 1, 3, 4, 5 and 6 turned round.
-- Every engine's opening, and the proofs over an opened table, draw on it.
-- Assumes nothing.
use Rattle.std.specs.Prelude.{◌≡◌, ℕ, zero, suc, ◌+◌, ◌<◌, ◌≤◌, Bool, true, false, cond, ◌&&◌, List, [], length, ◌==◌, nat_le, slice_index, slice_index_or, refl}
use Rattle.std.proofs.Math.Decide.{ℕ_discrete}
use Rattle.std.proofs.Common.{arith}
use borrow.Author.Tests.{leb-true, eqb-true}
use Rattle.below.specs.Below.{most_below}
use Rattle.below.specs.Truth.{both_true}
use Rattle.cost.specs.Cost.{within, within_bounds}
use Rattle.reply.specs.Reply.{Reply, idle, done, refused}
use Rattle.reply.specs.Replies.{refused_done, idle_done}
use Rattle.queues.specs.Queue.{booked_ticks}
use Rattle.queues.specs.Queues.{shares_of}
use Rattle.queues.specs.Places.{lent}
use Rattle.queues.specs.Opening.{new_queues, paired, fault_from, or_else, table_reply, lists_reply}
use Rattle.queues.specs.Laws.{field_at, width_at_most}
use Rattle.queues.specs.Placed.{Shared, Small}
use Rattle.queues.specs.declared.Queues.{Queues}

-- share and largest packet of flow f are in range
pub record InRange (shares largest : List ℕ) (f : ℕ) : Type 0 where
  pub share_low : 1 ≤ slice_index shares f
  pub share_high : slice_index_or shares f 0 ≤ 1000
  pub largest_low : 1 ≤ slice_index largest f
  pub largest_high : slice_index_or largest f 0 ≤ 1500

-- two memories of 4,096 places, lists of one length, 1 to 64, with every number in range and shares of at most 1,000,
-- and a header of at most 64
pub record Openable (shares largest : List ℕ) (header : ℕ) (lengths handles : List ℕ) : Type 0 where
  pub lengths_lent : length lengths ≡ 4096
  pub handles_lent : length handles ≡ 4096
  pub paired_lists : length shares ≡ length largest
  pub some : 1 ≤ length shares
  pub few : length shares ≤ 64
  pub short : header ≤ 64
  pub each : (f : ℕ) → f < length shares → InRange shares largest f
  pub sum : shares_of (new_queues shares largest) (length shares) ≤ 1000

-- a test that is passed where nothing is refused
passed : (test : Bool) (on : Reply) (n f : ℕ) → cond test on (refused n f) ≡ done [] → (test ≡ true) × (on ≡ done [])
passed true on n f e = (refl, e)
passed false on n f e = refused_done e

-- where nothing is refused, the flow is in range and nothing behind it is refused
turn_done : (a b : Bool) (f : ℕ) (behind on : Reply)
    → or_else (cond a (cond b behind (refused 5 f)) (refused 4 f)) on ≡ done []
    → (a ≡ true) × (b ≡ true) × (or_else behind on ≡ done [])
turn_done true true f behind on e = (refl, refl, e)
turn_done true false f behind on e = refused_done e
turn_done false b f behind on e = refused_done e

-- and the call went on
went_on : (before on : Reply) → or_else before on ≡ done [] → on ≡ done []
went_on idle on e = idle_done e
went_on (done values) on e = e
went_on (refused number flow) on e = refused_done e

module _ (shares largest : List ℕ) where
  in_range : (n f : ℕ) (on : Reply) → or_else (fault_from shares largest f n) on ≡ done []
      → (k : ℕ) → f ≤ k → k < f + n → InRange shares largest k
  unfolding fault_from
  in_range zero f on e k l h = absurd (omega arith)
  in_range (suc n) f on e k l h =
      let t = turn_done (within 1 1000 (slice_index shares f)) (within 1 1500 (slice_index largest f)) f _ on e in
      let q = within_bounds 1 1000 (slice_index shares f) t.0 in
      let bytes = within_bounds 1 1500 (slice_index largest f) t.1 in
      elim (ℕ_discrete k f) as (λ _. InRange shares largest k) [
        | yes i ↦ rw i record { share_low = q.0; share_high = q.1; largest_low = bytes.0; largest_high = bytes.1 }
        | no i ↦ in_range n (suc f) on t.2 k (omega arith) (omega arith)
      ]

  table_range : table_reply shares largest ≡ done [] → (k : ℕ) → k < length shares → InRange shares largest k
  unfolding table_reply
  table_range e k h = in_range (length shares) 0 _ e k (omega arith) (omega arith)

  table_sum : table_reply shares largest ≡ done [] → shares_of (new_queues shares largest) (length shares) ≤ 1000
  unfolding table_reply
  table_sum e =
      leb-true _ 1000 (passed (nat_le (shares_of (new_queues shares largest) (length shares)) 1000) (done []) 6 0
      (went_on (fault_from shares largest 0 (length shares)) _ e)).0

  pub openable : (header : ℕ) (lengths handles : List ℕ) → lists_reply shares largest header lengths handles ≡ done []
      → Openable shares largest header lengths handles
  unfolding lists_reply
  openable header lengths handles e =
      let first = passed (lent lengths handles) _ 1 0 e in
      let second = passed (paired shares largest header) _ 3 0 first.1 in
      let lend = both_true (length lengths == 4096) _ first.0 in
      let three = both_true (length shares == length largest && within 1 64 (length shares)) _ second.0 in
      let pair = both_true (length shares == length largest) _ three.0 in
      let count = within_bounds 1 64 (length shares) pair.1 in
      record {
        lengths_lent = eqb-true _ _ lend.0;
        handles_lent = eqb-true _ _ lend.1;
        paired_lists = eqb-true _ _ pair.0;
        some = count.0;
        few = count.1;
        short = leb-true _ _ three.1;
        each = table_range second.1;
        sum = table_sum second.1;
      }

module _ (shares largest : List ℕ) (header : ℕ) (lengths handles : List ℕ)
    (o : Openable shares largest header lengths handles) where
  -- both lists fit 16 bits
  pub small_lists : Small shares × Small largest
  small_lists = (
    record { few = o.few; each = λ f h. omega (arith, (o.each f h).share_high) },
    record {
      few = omega (arith, o.few, o.paired_lists);
      each = λ f h. omega (arith, (o.each f (omega (arith, o.paired_lists, h))).largest_high);
    },
  )

  module _ (q : Queues) (n : q ≡ new_queues shares largest) where
    -- the shares of the opened table are shares
    pub opened_shares : Shared q.share (length shares)
    unfolding new_queues
    opened_shares =
        record {
          each = λ f h. rw (n, field_at shares f (omega (arith, o.few)))
              ((o.each f h).share_low, (o.each f h).share_high);
        }

    -- the leap width fits 32 bits
    pub width_fits : most_below (λ f. booked_ticks header (slice_index q.share f) (slice_index q.largest f))
        (length shares) ≤ 1126080000
    unfolding new_queues
    width_fits =
        width_at_most header (λ f. slice_index q.share f) (λ f. slice_index q.largest f) (length shares) o.short
        λ f h. rw (n, field_at largest f (omega (arith, o.few))) (o.each f h).largest_high
