-- Each call of the plain engine gives, with the sum added, what the first engine's gives: on any record, carried or
-- not, refused calls and Idle included. Document 02 c): "picks, lengths, handles, leaps and refusals are equal to the
-- first engine's, and every tag less the clock is the same".
-- Assumes nothing.
use Rattle.std.specs.Prelude.{◌≡◌, Bool, true, false, cond, List, ℕ, ◌+◌, ◌*◌, ◌<◌, ltb, get_or, replicate}
use Rattle.std.proofs.Math.Path.{refl, ap}
use Rattle.std.proofs.Common.{sym, ap₂, ◌∙◌, arith, ltb-true}
use Rattle.std.proofs.lemmas.List.{set-get_or}
use Rattle.below.specs.Listed.{length_listed}
use Rattle.reply.specs.Reply.{Reply, idle, done, refused, packet}
use Rattle.reply.specs.State.{state, outcome, demand, unless_refused, opened_by}
use Rattle.queues.specs.Queue.{place_of}
use Rattle.queues.specs.Queues.{queue_at}
use Rattle.queues.specs.declared.Queues as forward_queues
use Rattle.queues.specs.Places.{lent}
use Rattle.queues.specs.Opening.{lists_reply}
use Rattle.queues.specs.Laws.{join_cases}
use Rattle.tags.specs.Chosen.{leads, further, leads_further}
use Rattle.tags.specs.Choice.{Lead}
use Rattle.signs.specs.Tags as signs
use Rattle.signs.specs.Tags.{natural}
use Rattle.signs.specs.Raise.{above, above_lowered, raised_lowered, raised_natural}
use Rattle.uplink.specs.State as first
use Rattle.uplink.specs.Form as form
use Rattle.uplink.specs.Formed.{Formed, formed_out}
use Rattle.uplink.specs.declared.Record as forward
use Rattle.uplink.specs.Record as record_of
use Rattle.uplink.specs.Opening as first_opening
use Rattle.uplink.specs.Arrival as first_arrival
use Rattle.uplink.specs.Pick as first_pick
use Rattle.uplink.specs.Pick.{clock_limit}
use Rattle.uplink.specs.Calls as first_calls
use Rattle.uplink.specs.Calls.{Call, opening, arrival, pick}
use Rattle.backward.specs.Record.{tag_of, queue_of, waiting_of, put, lowered, unleapt, blank}
use Rattle.backward.specs.Raised.{raised_record}
use Rattle.backward.specs.State.{State, Outcome}
use Rattle.backward.specs.Form.{formed}
use Rattle.backward.specs.Formed.{lowered_tag, raised_fits, all_above, waiting_tag}
use Rattle.backward.specs.Opening.{opening_rule}
use Rattle.backward.specs.Arrival.{store_rule, arrival_rule}
use Rattle.backward.specs.Pick.{lead_of, leapt, chosen_record, leapt_record, served_rule, serve_rule, idle_rule, choose_rule}
use Rattle.backward.specs.Pick.{pick_rule}
use Rattle.backward.specs.Calls.{after_call}
use Rattle.backward.specs.declared.Record.{Record}
use Rattle.equal.specs.Raised.{raised_state, raised_values, raised_outcome}
use Rattle.equal.specs.Steps.{Wide, raised_leapt, leapt_alike, raised_waits, raised_stored, raised_served}
use Rattle.equal.specs.Steps.{raised_rested, raised_unleapt}

-- with nothing leapt the values stay
values_stay : (values : List ℕ) → raised_values 0 values ≡ values
values_stay values =
    let tag : get_or values 3 0 + 0 ≡ get_or values 3 0 = omega arith in
    let clock : get_or values 5 0 + 0 ≡ get_or values 5 0 = omega arith in
    rw (tag, clock, set-get_or values 3 0, set-get_or values 5 0)

-- an opening
pub same_opening : (s : State) (shares largest : List ℕ) (header : ℕ)
    → first_opening.opening_rule shares largest header s.lengths s.handles
    ≡ raised_outcome (opening_rule shares largest header s.lengths s.handles)
unfolding opening_rule first_opening.opening_rule first_opening.new_record
same_opening s shares largest header = go (lists_reply shares largest header s.lengths s.handles)
  where
    new : first_opening.new_record shares largest header
        ≡ raised_record (unleapt (first_opening.new_record shares largest header))
    new = raised_unleapt (first_opening.new_record shares largest header) refl

    none : record_of.blank ≡ raised_record blank
    none = raised_unleapt record_of.blank refl

    go : (reply : Reply)
        → opened_by reply (first_opening.new_record shares largest header) record_of.blank s.lengths s.handles
        ≡ raised_outcome
        (opened_by reply (unleapt (first_opening.new_record shares largest header)) blank s.lengths s.handles)
    go idle = ap (λ r. outcome idle r s.lengths s.handles) none
    go (done values) =
        ap₂ (λ r vs. outcome (done vs) r (replicate 4096 0) (replicate 4096 0)) new (sym (values_stay values))
    go (refused number flow) = ap (λ r. outcome (refused number flow) r s.lengths s.handles) none

-- refusals 1 and 2, and where a call goes on
checked_same : (s : State) (a b : Bool) (one : first.Outcome) (other : Outcome) → (b ≡ true → one ≡ raised_outcome other)
    → demand a 1 (raised_state s) (demand b 2 (raised_state s) one) ≡ raised_outcome (demand a 1 s (demand b 2 s other))
checked_same s true true one other on = on refl
checked_same s true false one other on = refl
checked_same s false b one other on = refl

-- an arrival
pub same_arrival : (s : State) (f n handle : ℕ) → Wide s.held
    → first_arrival.arrival_rule (raised_state s) f n handle ≡ raised_outcome (arrival_rule s f n handle)
unfolding arrival_rule first_arrival.join_rule form.checked
same_arrival s f n handle wide =
    checked_same s (lent s.lengths s.handles) (formed s.held s.lengths) _ _ λ fine.
    let F = formed_out (raised_record s.held) s.lengths fine in
    let q = queue_of s.held f in
    join_cases s.held.flows f n q.largest q.waiting
    (λ reply. unless_refused reply (raised_state s) (first_arrival.store_rule (raised_state s) f n handle)
    ≡ raised_outcome (unless_refused reply s (store_rule s f n handle)))
    (λ taken. let h : f < 64 = omega (arith, F.few, taken.counted) in
    raised_stored s f wide h (all_above s.held s.lengths F f h) n handle)
    (λ number low high. refl)

-- a pick's reply by its values
packet_same : (f : ℕ) {n n' handle handle' tag tag' clock clock' : ℕ} {b b' : Bool} → n ≡ n' → handle ≡ handle'
    → tag ≡ tag' → b ≡ b' → clock ≡ clock' → packet f n handle tag b clock ≡ packet f n' handle' tag' b' clock'
packet_same f e k t l c = rw (e, k, t, l, c)

-- the record r with flow f chosen, after the leap or without one
record Leapt (r next : Record) (f : ℕ) : Type 0 where
  all : Wide next
  over : above next.sum.0 (tag_of next f) ≡ true
  tag : record_of.tag_of (raised_record r) f ≡ natural (tag_of next f) + next.sum.0
  queues : next.queues ≡ r.queues

module _ (r : Record) (lengths : List ℕ) (wide : Wide r) (F : Formed (raised_record r) lengths) (f : ℕ)
    (l : f < r.flows) (w : 0 < waiting_of r f) where
  leapt_on : Leapt r (leapt_record r f) f
  unfolding lowered
  leapt_on = go (leapt r f) refl
    where
      h : f < 64
      h = omega (arith, F.few)

      over : above r.sum.0 (tag_of r f) ≡ true
      over = all_above r lengths F f h

      tag : record_of.tag_of (raised_record r) f ≡ natural (tag_of r f) + r.sum.0
      tag = raised_waits r lengths F f l w

      go : (b : Bool) → leapt r f ≡ b → Leapt r (cond b (lowered (chosen_record r f)) (chosen_record r f)) f
      go false e = record { all = wide; over = over; tag = tag; queues = refl }
      go true e =
          let far : r.clock.0 + 2 * r.width < natural (tag_of r f) = ltb-true _ _ e in
          let low = lowered_tag r f h in
          let same = raised_lowered r.sum.0 r.width (tag_of r f) over in
          let told = (waiting_tag r lengths F f l w).0 in
          record {
            all = length_listed (λ g. signs.lowered r.width (tag_of r g)) 0 64;
            over = rw low (above_lowered r.sum.0 r.width (tag_of r f) over);
            tag = tag ∙ sym told ∙ sym same
                ∙ raised_natural (r.sum.0 + r.width) (signs.lowered r.width (tag_of r f))
                (omega (arith, same, told, far)) (omega (arith, same, raised_fits r lengths F f h))
                ∙ ap (λ z. natural z + (r.sum.0 + r.width)) (sym low);
            queues = refl;
          }

-- a pick at flow f, which waits
pub same_serve : (s : State) → Wide s.held → Formed (raised_record s.held) s.lengths → (f : ℕ)
    → f < s.held.flows → 0 < waiting_of s.held f
    → first_pick.serve_rule (raised_state s) f ≡ raised_outcome (serve_rule s f)
unfolding serve_rule first_pick.serve_rule served_rule put record_of.put
same_serve s wide F f l w =
    let r = s.held in
    let next = leapt_record r f in
    let L = leapt_on r s.lengths wide F f l w in
    let h : f < 64 = omega (arith, F.few) in
    let t : State = state next s.lengths s.handles in
    let after : first_pick.advanced_state (first_pick.leapt_state (raised_state s) f) f
    ≡ raised_state (served_rule t f).state =
    ap (λ (x : forward.Record). first_pick.advanced_state (state x s.lengths s.handles) f)
    (raised_leapt r s.lengths F f l w)
    ∙ raised_served t f L.all h L.over in
    let front : forward_queues.Queues → ℕ = λ q. place_of f (queue_at q f).first 0 in
    ap₂ (λ reply st. record { reply = reply; state = st })
    (packet_same f
    (ap (λ q. get_or s.lengths (front q) 0) (sym L.queues))
    (ap (λ q. get_or s.handles (front q) 0) (sym L.queues))
    L.tag
    (leapt_alike r s.lengths F f l w)
    (ap (λ (x : first.State). x.held.clock.0) after))
    after

-- Idle, 10 and a pick, by who leads
module _ (s : State) (wide : Wide s.held) (F : Formed (raised_record s.held) s.lengths) where
  abbrev clock : ℕ
  clock = s.held.clock.0 + s.held.sum.0

  -- the first engine's
  abbrev choosing : Lead → first.Outcome
  choosing lead =
      cond lead.waits
      (demand (ltb clock clock_limit) 10 (raised_state s) (first_pick.serve_rule (raised_state s) lead.flow))
      (first_pick.idle_rule (raised_state s))

  same_choose : first_pick.choose_rule (raised_state s) ≡ raised_outcome (choose_rule s)
  unfolding choose_rule idle_rule first_pick.choose_rule first_pick.idle_rule
  same_choose = ap choosing leads_same ∙ go (lead_of s.held).waits refl (ltb clock clock_limit)
    where
      leads_same : first_pick.lead_of (raised_record s.held) ≡ further s.held.sum.0 (lead_of s.held)
      leads_same =
          leads_further s.held.turn (λ f. natural (tag_of s.held f)) (record_of.tag_of (raised_record s.held))
          (waiting_of s.held) s.held.sum.0 s.held.flows (raised_waits s.held s.lengths F)

      go : (b : Bool) → (lead_of s.held).waits ≡ b → (c : Bool)
          → cond b (demand c 10 (raised_state s) (first_pick.serve_rule (raised_state s) (lead_of s.held).flow))
          (first_pick.idle_rule (raised_state s))
          ≡ raised_outcome (cond b (demand c 10 s (serve_rule s (lead_of s.held).flow)) (idle_rule s))
      go false e c = ap (λ r. outcome idle r s.lengths s.handles) (raised_rested s.held)
      go true e false = refl
      go true e true =
          let chosen = (leads s.held.turn (λ f. natural (tag_of s.held f)) (waiting_of s.held) s.held.flows
          ).smallest e in
          same_serve s wide F (lead_of s.held).flow chosen.counts chosen.waits

-- a pick
pub same_pick : (s : State) → Wide s.held → first_pick.pick_rule (raised_state s) ≡ raised_outcome (pick_rule s)
unfolding pick_rule form.checked
same_pick s wide =
    checked_same s (lent s.lengths s.handles) (formed s.held s.lengths) _ _ λ fine.
    same_choose s wide (formed_out (raised_record s.held) s.lengths fine)

-- Each call.
pub same_call : (s : State) → Wide s.held → (call : Call)
    → first_calls.after_call (raised_state s) call ≡ raised_outcome (after_call s call)
same_call s wide (opening shares largest header) = same_opening s shares largest header
same_call s wide (arrival flow length handle) = same_arrival s flow length handle wide
same_call s wide pick = same_pick s wide
