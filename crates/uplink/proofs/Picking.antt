-- What each way through a pick gives, as the rule has it.
-- Assumes nothing.
use Rattle.std.specs.Prelude.{◌≡◌, ℕ, ◌+◌, ◌-◌, ◌%◌, ◌≤◌, ◌<◌, true, cond, ltb, Bool, false, length, List, set, Option, Some, None}
use Rattle.std.proofs.Common.{sym, ◌∙◌, arith}
use Rattle.std.specs.Array.{IsWholeChunk}
use lib.Seq.{set-get_or}
use borrow.Author.Tests.{le-ltb, lt-ltb}
use Rattle.cost.specs.Charge.{charge_of, link_ticks}
use Rattle.reply.specs.Reply.{idle, refused, packet}
use Rattle.reply.specs.State.{state, outcome}
use Rattle.queues.specs.Queue.{place_of}
use Rattle.queues.specs.Queues.{queues_of, queue_at, put_left}
use Rattle.queues.specs.Places.{freed_of}
use Rattle.queues.specs.Checked.{lengths_unlent, handles_unlent, refused_unformed, goes_on}
use Rattle.queues.specs.declared.Queues.{Queues}
use Rattle.queues.specs.declared.places.Freed.{Freed}
use Rattle.tags.specs.Ticks.{ticks, leap_rule, front_tag}
use Rattle.tags.specs.Choice.{turn_after, found}
use Rattle.tags.specs.Chosen.{leads, Tagged, found_some, found_none}
use Rattle.tags.specs.Laws.{leap_high}
use Rattle.tags.specs.declared.LinkTicks.{LinkTicks}
use Rattle.tags.specs.declared.ServerTicks.{ServerTicks}
use Rattle.tags.specs.declared.choice.Lead as told_lead
use Rattle.tags.specs.declared.steps.Leapt.{Leapt}
use Rattle.uplink.specs.Flow.{served_flow, flow_cost}
use Rattle.uplink.specs.Record.{flow_at, tag_of, waiting_of, with, link_time, tagged, rested, put}
use Rattle.uplink.specs.State.{Outcome}
use Rattle.uplink.specs.Form.{formed, checked}
use Rattle.uplink.specs.Formed.{Formed, formed_out, tag_fits}
use Rattle.uplink.specs.Pick.{clock_limit, lead_of, serve_rule, idle_rule, choose_rule, pick_rule}
use Rattle.uplink.specs.Ready.{Leaves, leaves, Fronting}
use Rattle.uplink.specs.declared.Record.{Record}

-- a leap takes the clock on by Δ at the most
pub leap_most : (leap : Leapt) (clock tag : ServerTicks) (width : ℕ) → leap ≡ leap_rule clock width tag
    → leap.clock.0 ≤ clock.0 + width
unfolding leap_rule
leap_most leap clock tag width e = rw e (leap_high clock.0 width tag.0)

-- steps 3 to 5 at flow f
module _ (r : Record) (lengths handles : List ℕ) (f : ℕ) (tag : ServerTicks) (tagged_so : tag.0 ≡ tag_of r f)
    (leap : Leapt) (leapt : leap ≡ leap_rule r.clock r.width tag) (turn : ℕ) (on_turn : turn ≡ turn_after f)
    (first : ℕ) (q : Queues)
    (on : (first ≡ (queue_at r.queues f).first)
    × (q ≡ queues_of r.queues.share r.queues.largest (set r.queues.first f ((first + 1) % 64)) r.queues.waiting))
    (waiting : ℕ) (p : Queues)
    (fewer : (waiting ≡ (queue_at q f).waiting)
    × (p ≡ queues_of q.share q.largest q.first (set q.waiting f (waiting - 1))))
    (freed : Freed) (ls hs : List ℕ)
    (went : (freed ≡ freed_of f first lengths handles)
    × (ls ≡ set lengths (place_of f first 0) 0)
    × (hs ≡ set handles (place_of f first 0) 0))
    (clock : ServerTicks) (link : LinkTicks)
    (gone : (clock ≡ ticks (leap.clock.0 + link_ticks (charge_of r.header freed.length)))
    × (link ≡ link_time (r.link.0 + link_ticks (charge_of r.header freed.length)))) where
  -- the record when the packet has gone, before the one behind it is tagged
  abbrev after : Record
  after = with r clock link r.tags p turn

  -- that one does not overflow the tag
  pub fronting : Leaves r f lengths → Fronting after f
  fronting L =
      let short : freed.length ≤ 1500 = rw (went.0, on.0) L.queue.short in
      let late = leap_most leap r.clock tag r.width leapt in
      rw (fewer.1, on.1) record {
        flow = L.queue.flow;
        share_low = L.queue.share_low;
        share_high = L.queue.share_high;
        tag = omega (arith, L.tag);
        clock = rw gone.0 (omega (arith, late, short, L.clock, L.width, L.queue.header_low));
      }

  -- where the flow's tag is the rule's, so is all else
  served : (next : Record)
      → next ≡ tagged after f (cond (ltb 1 (waiting_of r f))
      (front_tag (tag_of r f) clock.0 (flow_cost (flow_at r f)) (charge_of r.header freed.behind)) (tag_of r f))
      → outcome (packet f freed.length freed.handle tag.0 leap.leapt next.clock.0) next ls hs
      ≡ serve_rule (state r lengths handles) f
  unfolding serve_rule served_flow put leap_rule
  served next e = rw (
    e,
    went.1,
    went.2,
    gone.0,
    gone.1,
    went.0,
    fewer.1,
    fewer.0,
    on.1,
    on.0,
    on_turn,
    leapt,
    tagged_so,
    put_left r.queues f (((queue_at r.queues f).first + 1) % 64) ((queue_at r.queues f).waiting - 1),
  )

  waits : waiting ≡ waiting_of r f
  waits = rw on.1 at fewer.0

  -- another packet comes to the front, and the flow gets its tag
  pub sent_more : (next : Record) → 1 < waiting
      → next ≡ tagged after f (front_tag (tag_of r f) clock.0 (flow_cost (flow_at after f)) (charge_of r.header freed.behind))
      → outcome (packet f freed.length freed.handle tag.0 leap.leapt next.clock.0) next ls hs
      ≡ serve_rule (state r lengths handles) f
  sent_more next h e =
      served next (e ∙ rw (lt-ltb 1 (waiting_of r f) (omega (arith, h, waits)), fewer.1, on.1))

  -- it was the last, and the tag stays
  pub sent_last : (next : Record) → waiting ≤ 1 → next ≡ after
      → outcome (packet f freed.length freed.handle tag.0 leap.leapt next.clock.0) next ls hs
      ≡ serve_rule (state r lengths handles) f
  sent_last next h e =
      served next (e ∙ rw (le-ltb 1 (waiting_of r f) (omega (arith, h, waits)), set-get_or r.tags.0 f 0))

-- a pick by its steps: the number of places in each memory, then the form test
module _ (r : Record) (lengths handles : List ℕ) where
  -- 1
  pub picked_unlent : (length lengths ≡ 4096 → ⊥)
      → outcome (refused 1 0) r lengths handles ≡ pick_rule (state r lengths handles)
  unfolding checked
  picked_unlent h = lengths_unlent r (formed r lengths) lengths handles _ h

  module _ (ls : List ℕ) (L : IsWholeChunk lengths ls 4096) where
    pub picked_unhandled : (length handles ≡ 4096 → ⊥)
        → outcome (refused 1 0) r ls handles ≡ pick_rule (state r lengths handles)
    unfolding checked
    picked_unhandled h = rw L.same (handles_unlent r (formed r lengths) lengths handles L.long _ h)

    module _ (hs : List ℕ) (H : IsWholeChunk handles hs 4096) (b : Bool) (e : b ≡ formed r ls) where
      -- 2
      pub picked_unformed : b ≡ false → outcome (refused 2 0) r ls hs ≡ pick_rule (state r lengths handles)
      unfolding checked
      picked_unformed h = rw (L.same, H.same)
          (refused_unformed r (formed r lengths) lengths handles L.long H.long b (rw L.same at e) _ h)

      -- past them
      pub picked_on : b ≡ true → (o : Outcome) → o ≡ choose_rule (state r ls hs)
          → o ≡ pick_rule (state r lengths handles)
      unfolding checked
      picked_on h o q = rw (L.same, H.same) at q
          ∙ goes_on r (formed r lengths) lengths handles L.long H.long b (rw L.same at e) _ h

-- past refusals 1 and 2
module _ (r : Record) (ls : List ℕ) (b : Bool) (e : b ≡ formed r ls) where
  module _ (h : b ≡ true) where
    pub form : Formed r ls
    form = formed_out r ls (sym e ∙ h)

    -- no tag of a flow that counts stands for none
    pub leadable : (r.flows ≤ 64) × Tagged r.tags.0 r.flows
    leadable = (form.few, record { each = λ f h. omega (arith, tag_fits r ls form f h) })

    module _ (choice : Option told_lead.Lead) (led : choice ≡ found (lead_of r)) where
      -- step 1
      pub chosen_idle : (next : Record) → choice ≡ None → next ≡ rested r → (hs : List ℕ)
          → outcome idle next ls hs ≡ choose_rule (state r ls hs)
      unfolding choose_rule idle_rule
      chosen_idle next none n hs = rw (n, found_none (lead_of r) (sym none ∙ led))

      module _ (lead : told_lead.Lead) (some : choice ≡ Some lead) where
        leader : ((lead_of r).waits ≡ true) × (lead.flow ≡ (lead_of r).flow) × (lead.tag ≡ (lead_of r).tag)
        leader = found_some (lead_of r) lead (sym some ∙ led)

        -- 10
        pub chosen_late : clock_limit ≤ r.clock.0 → (hs : List ℕ)
            → outcome (refused 10 0) r ls hs ≡ choose_rule (state r ls hs)
        unfolding choose_rule
        chosen_late h hs = rw (leader.0, le-ltb r.clock.0 clock_limit h)

        module _ (soon : r.clock.0 < clock_limit) where
          pub leaving : Leaves r lead.flow ls
          leaving =
              let chosen = (leads r.turn (tag_of r) (waiting_of r) r.flows).smallest leader.0 in
              rw leader.1 (leaves r (lead_of r).flow ls form chosen.counts chosen.waits soon)

          -- the front packet goes
          pub chosen : (hs : List ℕ) (o : Outcome) → o ≡ serve_rule (state r ls hs) lead.flow
              → o ≡ choose_rule (state r ls hs)
          unfolding choose_rule
          chosen hs o q = q ∙ rw (leader.1, leader.0, lt-ltb r.clock.0 clock_limit soon)
