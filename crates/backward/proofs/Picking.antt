-- What each way through a pick gives, as the rule has it.
-- Assumes nothing.
use Rattle.std.specs.Prelude.{◌≡◌, refl, ℕ, ◌+◌, ◌-◌, ◌*◌, ◌%◌, ◌≤◌, ◌<◌, Bool, true, false, cond, ltb, length, pos, List, get_or, slice_index, set, Option, Some, None}
use Rattle.std.specs.Int.Signed.{mag}
use Rattle.std.proofs.Common.{sym, ap, ◌∙◌, arith, ltb-true}
use Rattle.std.specs.Array.{IsWholeChunk}
use lib.Seq.{set-get_or}
use borrow.Author.Tests.{le-ltb, lt-ltb}
use Rattle.below.specs.Listed.{listed, listed_here}
use Rattle.cost.specs.Charge.{charge_of, link_ticks}
use Rattle.reply.specs.Reply.{idle, refused, packet}
use Rattle.reply.specs.State.{state, outcome}
use Rattle.queues.specs.Queue.{place_of, cost_to}
use Rattle.queues.specs.Queues.{queues_of, put_left}
use Rattle.queues.specs.Places.{freed_of}
use Rattle.queues.specs.Ready.{Servable}
use Rattle.queues.specs.Checked.{lengths_unlent, handles_unlent, refused_unformed, goes_on}
use Rattle.queues.specs.declared.Queues.{Queues}
use Rattle.queues.specs.declared.places.Freed.{Freed}
use Rattle.tags.specs.Ticks.{ticks, leap_rule}
use Rattle.tags.specs.Choice.{turn_after, lead_by, found}
use Rattle.tags.specs.Chosen.{leads, leads_same, Tagged, found_some, found_none}
use Rattle.tags.specs.declared.LinkTicks.{LinkTicks}
use Rattle.tags.specs.declared.ServerTicks.{ServerTicks}
use Rattle.tags.specs.declared.choice.Lead as told_lead
use Rattle.tags.specs.declared.steps.Leapt.{Leapt}
use Rattle.signs.specs.Tags as signs
use Rattle.signs.specs.Tags.{natural, front_tag}
use Rattle.signs.specs.Bounds.{reach, Near}
use Rattle.signs.specs.Raise.{natural_most, lowered_near}
use Rattle.signs.specs.declared.SignedTags.{SignedTags}
use Rattle.uplink.specs.Record.{link_time}
use Rattle.uplink.specs.Formed.{Formed, formed_out}
use Rattle.uplink.specs.Pick.{clock_limit}
use Rattle.uplink.specs.Ready.{leaves}
use Rattle.backward.specs.Record.{tag_of, queue_of, waiting_of, with, turned, tagged, put, lowered, rested}
use Rattle.backward.specs.Raised.{raised_record}
use Rattle.backward.specs.State.{Outcome}
use Rattle.backward.specs.Form.{formed}
use Rattle.backward.specs.Formed.{lowered_tag, sum_fits, all_near}
use Rattle.backward.specs.Pick.{lead_of, leapt, chosen_record, leapt_record, Served, served, served_rule, serve_rule}
use Rattle.backward.specs.Pick.{idle_rule, choose_rule, pick_rule}
use Rattle.backward.specs.Ready.{Fronting, Going, Soon}
use Rattle.backward.specs.declared.Record.{Record}

-- the tags gone down and the sum gone on are a leap
pub lowered_as : (r : Record) (tags : SignedTags) (width : ℕ)
    → tags.0 ≡ listed (λ f. signs.lowered r.width (get_or r.tags.0 f (pos 0))) 0 64 → width ≡ r.width
    → with r (ticks (r.sum.0 + width)) r.clock r.link tags r.queues r.turn ≡ lowered r
unfolding lowered
lowered_as r tags width e w =
    rw w (ap (λ t. with r (ticks (r.sum.0 + r.width)) r.clock r.link (record { 0 = t }) r.queues r.turn) e)

-- the leader by the tags as far as they are above zero
module _ (r : Record) (keys : List ℕ) (k : keys ≡ listed (λ f. natural (get_or r.tags.0 f (pos 0))) 0 64)
    (flows : ℕ) (same : flows ≡ r.flows) (few : r.flows ≤ 64) where
  key_at : (f : ℕ) → f < 64 → get_or keys f 0 ≡ natural (tag_of r f)
  key_at f h = rw k (listed_here (λ g. natural (tag_of r g)) 64 f 0 h)

  -- none of them stands for none
  pub keyed : Near r.tags.0 → (flows ≤ 64) × Tagged keys flows
  keyed near = rw same (
    few,
    record {
      each = λ f h. let low : f < 64 = omega (arith, h, few) in
          omega (arith, key_at f low, natural_most (tag_of r f), near.each f low);
    },
  )

  pub led : (choice : Option told_lead.Lead)
      → choice ≡ found (lead_by r.turn (λ f. slice_index keys f) (λ f. slice_index r.queues.waiting f) flows)
      → choice ≡ found (lead_of r)
  led choice e = (rw same at e)
      ∙ ap found (leads_same r.turn (λ f. natural (tag_of r f)) (λ f. get_or keys f 0) (waiting_of r) r.flows
      (λ f h. key_at f (omega (arith, h, few))))

-- steps 4 and 5 at flow f
module _ (r : Record) (lengths handles : List ℕ) (f first : ℕ) (q : Queues)
    (on : (first ≡ (queue_of r f).first)
    × (q ≡ queues_of r.queues.share r.queues.largest (set r.queues.first f ((first + 1) % 64)) r.queues.waiting))
    (waiting : ℕ) (p : Queues)
    (fewer : (waiting ≡ slice_index q.waiting f)
    × (p ≡ queues_of q.share q.largest q.first (set q.waiting f (waiting - 1))))
    (freed : Freed) (ls hs : List ℕ)
    (went : (freed ≡ freed_of f first lengths handles)
    × (ls ≡ set lengths (place_of f first 0) 0)
    × (hs ≡ set handles (place_of f first 0) 0))
    (clock : ServerTicks) (link : LinkTicks)
    (gone : (clock ≡ ticks (r.clock.0 + link_ticks (charge_of r.header freed.length)))
    × (link ≡ link_time (r.link.0 + link_ticks (charge_of r.header freed.length)))) where
  -- the record when the packet has gone, before the one behind it is tagged
  abbrev after : Record
  after = with r r.sum clock link r.tags p r.turn

  -- that one does not overflow the tag: the clock is no further than one packet on
  pub fronting : Servable r.queues r.header f lengths → Going r f → Fronting after f
  fronting S G =
      let short : freed.length ≤ 1500 = rw (went.0, on.0) S.short in
      rw (fewer.1, on.1) record {
        flow = S.flow;
        share_low = S.share_low;
        share_high = S.share_high;
        tag = G.tag;
        clock = rw gone.0 (omega (arith, short, G.clock, S.header_low));
      }

  -- where the flow's tag is the rule's, so is all else
  served_as : (next : Record)
      → next ≡ tagged after f (cond (ltb 1 (waiting_of r f))
      (front_tag (tag_of r f) clock.0 (cost_to (queue_of r f)) (charge_of r.header freed.behind)) (tag_of r f))
      → served freed.length freed.handle (state next ls hs) ≡ served_rule (state r lengths handles) f
  unfolding served_rule put
  served_as next e = rw (
    e,
    went.1,
    went.2,
    gone.0,
    gone.1,
    went.0,
    fewer.1,
    fewer.0,
    on.1,
    on.0,
    put_left r.queues f (((queue_of r f).first + 1) % 64) (waiting_of r f - 1),
  )

  waits : waiting ≡ waiting_of r f
  waits = rw on.1 at fewer.0

  -- another packet comes to the front, and the flow gets its tag
  pub served_more : (next : Record) → 1 < waiting
      → next ≡ tagged after f (front_tag (tag_of r f) clock.0 (cost_to (queue_of after f)) (charge_of r.header freed.behind))
      → served freed.length freed.handle (state next ls hs) ≡ served_rule (state r lengths handles) f
  served_more next h e = served_as next (e ∙ rw (lt-ltb 1 (waiting_of r f) (omega (arith, h, waits)), fewer.1, on.1))

  -- it was the last, and the tag stays
  pub served_last : waiting ≤ 1
      → served freed.length freed.handle (state after ls hs) ≡ served_rule (state r lengths handles) f
  served_last h =
      served_as after (rw (le-ltb 1 (waiting_of r f) (omega (arith, h, waits)), set-get_or r.tags.0 f (pos 0)))

-- what a leap leaves as it was
pub leapt_stays : (r : Record) (b : Bool) → let next = cond b (lowered r) r in
    (next.queues ≡ r.queues) × (next.header ≡ r.header) × (next.clock ≡ r.clock) × (next.link ≡ r.link)
unfolding lowered
leapt_stays r true = (refl, refl, refl, refl)
leapt_stays r false = (refl, refl, refl, refl)

-- after the leap the flow's tag is within reach: before it, it was further above zero than the leap is wide
pub soon_near : (r : Record) (f : ℕ) → f < 64 → Soon r f → mag (tag_of (leapt_record r f) f) < reach
soon_near r f few S = go (leapt r f) refl
  where
    go : (b : Bool) → leapt r f ≡ b
        → mag (tag_of (cond b (lowered (chosen_record r f)) (chosen_record r f)) f) < reach
    go false e = S.tags.each f few
    go true e =
        let far : r.clock.0 + 2 * r.width < natural (tag_of r f) = ltb-true _ _ e in
        rw (lowered_tag (chosen_record r f) f few)
        (lowered_near r.width (tag_of r f) (omega (arith, far)) (S.tags.each f few))

-- step 3 at flow f
module _ (r : Record) (f : ℕ) (ahead : ServerTicks) (leap : Leapt) (n : ahead.0 ≡ natural (tag_of r f))
    (l : leap ≡ leap_rule r.clock r.width ahead) (turn : ℕ) (on : turn ≡ turn_after f) (next : Record) where
  -- the leap is the rule's
  leaps_as : leap.leapt ≡ leapt r f
  unfolding leap_rule
  leaps_as = rw (l, n)

  -- and so is the record after it, or without one
  pub leapt_so : leap.leapt ≡ true → next ≡ lowered (turned r turn)
      → (leap.leapt ≡ leapt r f) × (next ≡ leapt_record r f)
  leapt_so b e = (leaps_as, e ∙ rw (on, sym leaps_as ∙ b))

  pub leapt_not : leap.leapt ≡ false → next ≡ turned r turn → (leap.leapt ≡ leapt r f) × (next ≡ leapt_record r f)
  leapt_not b e = (leaps_as, e ∙ rw (on, sym leaps_as ∙ b))

-- the record after it
module _ (r next : Record) (f : ℕ) (leaps : Bool) (told_leap : (leaps ≡ leapt r f) × (next ≡ leapt_record r f)) where
  -- what was ready before the leap is ready after it
  pub soon_going : (lengths : List ℕ) → Servable r.queues r.header f lengths → Soon r f
      → Servable next.queues next.header f lengths × Going next f
  soon_going lengths S D = let same = leapt_stays (chosen_record r f) (leapt r f) in
      rw (told_leap.1, same.0, same.1) (
        S,
        record {
          tag = soon_near r f S.flow D;
          clock = rw same.2 D.clock;
          link = rw same.3 D.link;
        },
      )

  -- what went is the rule's
  pub sent_as : (lengths handles ls hs : List ℕ) (told : ServerTicks) (length handle : ℕ) (after : Record)
      → told.0 ≡ natural (tag_of next f)
      → served length handle (state after ls hs) ≡ served_rule (state next lengths handles) f
      → outcome (packet f length handle told.0 leaps after.clock.0) after ls hs
      ≡ serve_rule (state r lengths handles) f
  unfolding serve_rule
  sent_as lengths handles ls hs told length handle after d q =
      ap (λ (gone : Served). record {
        reply = packet f gone.length gone.handle told.0 leaps gone.state.held.clock.0;
        state = gone.state;
      }) q
      ∙ rw (d, told_leap.1, told_leap.0)

-- a pick by its steps: the number of places in each memory, then the form test
module _ (r : Record) (lengths handles : List ℕ) where
  -- 1
  pub picked_unlent : (length lengths ≡ 4096 → ⊥)
      → outcome (refused 1 0) r lengths handles ≡ pick_rule (state r lengths handles)
  unfolding pick_rule
  picked_unlent h = lengths_unlent r (formed r lengths) lengths handles _ h

  module _ (ls : List ℕ) (L : IsWholeChunk lengths ls 4096) where
    pub picked_unhandled : (length handles ≡ 4096 → ⊥)
        → outcome (refused 1 0) r ls handles ≡ pick_rule (state r lengths handles)
    unfolding pick_rule
    picked_unhandled h = rw L.same (handles_unlent r (formed r lengths) lengths handles L.long _ h)

    module _ (hs : List ℕ) (H : IsWholeChunk handles hs 4096) (b : Bool) (e : b ≡ formed r ls) where
      -- 2
      pub picked_unformed : b ≡ false → outcome (refused 2 0) r ls hs ≡ pick_rule (state r lengths handles)
      unfolding pick_rule
      picked_unformed h = rw (L.same, H.same)
          (refused_unformed r (formed r lengths) lengths handles L.long H.long b (rw L.same at e) _ h)

      -- past them
      pub picked_on : b ≡ true → (o : Outcome) → o ≡ choose_rule (state r ls hs)
          → o ≡ pick_rule (state r lengths handles)
      unfolding pick_rule
      picked_on h o q = rw (L.same, H.same) at q
          ∙ goes_on r (formed r lengths) lengths handles L.long H.long b (rw L.same at e) _ h

-- past refusals 1 and 2
module _ (r : Record) (ls : List ℕ) (b : Bool) (e : b ≡ formed r ls) where
  module _ (h : b ≡ true) where
    pub form : Formed (raised_record r) ls
    form = formed_out (raised_record r) ls (sym e ∙ h)

    pub leadable : (r.flows ≤ 64) × Near r.tags.0
    leadable = (form.few, all_near r ls form)

    module _ (choice : Option told_lead.Lead) (led : choice ≡ found (lead_of r)) where
      -- step 1
      pub chosen_idle : (next : Record) → choice ≡ None → next ≡ rested r → (hs : List ℕ)
          → outcome idle next ls hs ≡ choose_rule (state r ls hs)
      unfolding choose_rule idle_rule
      chosen_idle next none n hs = rw (n, found_none (lead_of r) (sym none ∙ led))

      module _ (lead : told_lead.Lead) (some : choice ≡ Some lead) where
        leader : ((lead_of r).waits ≡ true) × (lead.flow ≡ (lead_of r).flow) × (lead.tag ≡ (lead_of r).tag)
        leader = found_some (lead_of r) lead (sym some ∙ led)

        -- 10
        pub chosen_late : clock_limit ≤ r.clock.0 + r.sum.0 → (hs : List ℕ)
            → outcome (refused 10 0) r ls hs ≡ choose_rule (state r ls hs)
        unfolding choose_rule
        chosen_late h hs = rw (leader.0, le-ltb (r.clock.0 + r.sum.0) clock_limit h)

        module _ (soon : r.clock.0 + r.sum.0 < clock_limit) where
          -- what the checks leave of queue and tag
          pub sending : Servable r.queues r.header lead.flow ls × Soon r lead.flow
          sending =
              let chosen = (leads r.turn (λ f. natural (tag_of r f)) (waiting_of r) r.flows).smallest leader.0 in
              let L = leaves (raised_record r) (lead_of r).flow ls form chosen.counts chosen.waits soon in
              rw leader.1 (
                L.queue,
                record {
                  tags = all_near r ls form;
                  sum = sum_fits r ls form;
                  width = L.width;
                  clock = omega (arith, soon);
                  link = L.link;
                },
              )

          -- the front packet goes
          pub chosen : (hs : List ℕ) (o : Outcome) → o ≡ serve_rule (state r ls hs) lead.flow
              → o ≡ choose_rule (state r ls hs)
          unfolding choose_rule
          chosen hs o q = q ∙ rw (leader.1, leader.0, lt-ltb (r.clock.0 + r.sum.0) clock_limit soon)
