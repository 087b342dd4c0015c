-- What each way through an arrival gives, as the rule has it.
-- Assumes nothing.
use Rattle.std.specs.Prelude.{◌≡◌, ◌≢◌, ℕ, ◌+◌, ◌≤◌, List, [], slice_index, set, Result, Ok, Err, Bool, true, false, length}
use Rattle.std.proofs.Common.{sym, ap, ◌∙◌}
use Rattle.std.specs.Array.{IsWholeChunk}
use lib.Seq.{set-get_or}
use borrow.Author.Tests.{eq-eqb, ne_eqb}
use Rattle.cost.specs.Charge.{charge_of}
use Rattle.reply.specs.Reply.{done, refused, done_reply}
use Rattle.reply.specs.State.{state, outcome, unless_refused}
use Rattle.reply.specs.Replies.{told}
use Rattle.reply.specs.declared.Refusal.{Refusal}
use Rattle.queues.specs.Queue.{place_of}
use Rattle.queues.specs.Queues.{queues_of, put_joined}
use Rattle.queues.specs.Places.{join_reply}
use Rattle.queues.specs.Checked.{formed_done, lengths_unlent, handles_unlent, checked_reply}
use Rattle.queues.specs.declared.Queues.{Queues}
use Rattle.tags.specs.Ticks.{front_tag}
use Rattle.uplink.specs.Flow.{joined_flow, flow_cost}
use Rattle.uplink.specs.Record.{flow_at, tag_of, waiting_of, with, tagged, put}
use Rattle.uplink.specs.State.{Outcome}
use Rattle.uplink.specs.Form.{formed, checked}
use Rattle.uplink.specs.Formed.{formed_out}
use Rattle.uplink.specs.Arrival.{joining, admit_reply, store_rule, join_rule, arrival_rule}
use Rattle.uplink.specs.Ready.{Stored, stored}
use Rattle.uplink.specs.declared.Record.{Record}

module _ (r : Record) (lengths handles : List ℕ) (f n handle waiting : ℕ) (q : Queues) (ls hs : List ℕ)
    (counted : (waiting ≡ waiting_of r f)
    × (q ≡ queues_of r.queues.share r.queues.largest r.queues.first (set r.queues.waiting f (waiting + 1))))
    (kept : (ls ≡ set lengths (place_of f (flow_at r f).queue.first waiting) n)
    × (hs ≡ set handles (place_of f (flow_at r f).queue.first waiting) handle)) where
  -- the record with the packet counted
  abbrev more : Record
  more = with r r.clock r.link r.tags q r.turn

  -- the packet is the flow's only one, and the flow is tagged for it
  pub stored_first : (next : Record) → waiting ≡ 0
      → next ≡ tagged more f (front_tag (tag_of r f) r.clock.0 (flow_cost (flow_at more f)) (charge_of r.header n))
      → outcome (done []) next ls hs ≡ store_rule (state r lengths handles) f n handle
  unfolding store_rule joined_flow put
  stored_first next z e =
      rw (
        e,
        kept.0,
        kept.1,
        counted.1,
        counted.0,
        eq-eqb (waiting_of r f) 0 (sym counted.0 ∙ z),
        put_joined r.queues f (waiting_of r f + 1),
      )

  -- it goes behind others, and no tag changes
  pub stored_behind : waiting ≢ 0 → outcome (done []) more ls hs ≡ store_rule (state r lengths handles) f n handle
  unfolding store_rule joined_flow put
  stored_behind z =
      rw (
        kept.0,
        kept.1,
        counted.1,
        counted.0,
        ne_eqb (waiting_of r f) 0 (λ y. z (counted.0 ∙ y)),
        set-get_or r.tags.0 f 0,
        put_joined r.queues f (waiting_of r f + 1),
      )

-- the form test, and past it
module _ (r : Record) (lengths : List ℕ) (f n : ℕ) (b : Bool) (e : b ≡ formed r lengths) where
  -- 2
  pub unformed : b ≡ false → refused 2 0 ≡ admit_reply r lengths f n
  unformed h = rw (← e, h)

  module _ (h : b ≡ true) where
    pub few_flows : r.flows ≤ 64
    few_flows = (formed_out r lengths (sym e ∙ h)).few

    -- 7, 8 and 9
    pub joined : (flows : ℕ) → flows ≡ r.flows → (joins : Result (Unit {0}) Refusal)
        → done_reply joins ≡ join_reply flows f n (slice_index r.queues.largest f) (slice_index r.queues.waiting f)
        → done_reply joins ≡ admit_reply r lengths f n
    joined flows same joins asked = rw same at asked ∙ rw (← e, h)

-- what each way through the refusals gives
pub ruleset admitting = (unformed, few_flows, joined)

-- an arrival by its steps: the number of places in each memory, then refusals 2, 7, 8 and 9
module _ (r : Record) (lengths handles : List ℕ) (f n handle : ℕ) where
  abbrev store : Outcome
  store = store_rule (state r lengths handles) f n handle

  -- 1
  pub arrived_unlent : (length lengths ≡ 4096 → ⊥)
      → outcome (refused 1 0) r lengths handles ≡ arrival_rule (state r lengths handles) f n handle
  unfolding join_rule checked
  arrived_unlent h = lengths_unlent r (formed r lengths) lengths handles _ h

  module _ (ls : List ℕ) (L : IsWholeChunk lengths ls 4096) where
    pub arrived_unhandled : (length handles ≡ 4096 → ⊥)
        → outcome (refused 1 0) r ls handles ≡ arrival_rule (state r lengths handles) f n handle
    unfolding join_rule checked
    arrived_unhandled h = rw L.same (handles_unlent r (formed r lengths) lengths handles L.long _ h)

    module _ (hs : List ℕ) (H : IsWholeChunk handles hs 4096) (admits : Result (Unit {0}) Refusal)
        (said : done_reply admits ≡ admit_reply r ls f n) where
      admitted : unless_refused (done_reply admits) (state r lengths handles) store
          ≡ arrival_rule (state r lengths handles) f n handle
      unfolding join_rule checked
      admitted = rw (said, L.same) (checked_reply r (formed r lengths) lengths handles L.long H.long
          (joining (state r lengths handles) f n) store)

      -- refused
      pub arrived_refused : (why : Refusal) → admits ≡ Err why
          → outcome (done_reply (Err why)) r ls hs ≡ arrival_rule (state r lengths handles) f n handle
      arrived_refused why e = rw (L.same, H.same, (told why).says) (rw (e, (told why).says) at admitted)

      -- the packet is taken
      pub arrived : (u : Unit {0}) → admits ≡ Ok u → (next : Record) (ls' hs' : List ℕ)
          → outcome (done []) next ls' hs' ≡ store_rule (state r ls hs) f n handle
          → outcome (done []) next ls' hs' ≡ arrival_rule (state r lengths handles) f n handle
      arrived u e next ls' hs' q = rw (L.same, H.same) at q ∙ rw e at admitted

-- what the checks leave
module _ (r : Record) (lengths : List ℕ) (f n : ℕ) (admits : Result (Unit {0}) Refusal)
    (said : done_reply admits ≡ admit_reply r lengths f n) (u : Unit {0}) (e : admits ≡ Ok u) where
  pub storing : Stored r f n
  storing = let d = formed_done (formed r lengths) _ (sym said ∙ ap done_reply e) in
      stored r f lengths (formed_out r lengths d.0) n d.1

  pub short : n ≤ 1500
  short = storing.queue.short
