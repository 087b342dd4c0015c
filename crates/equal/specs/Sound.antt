-- What every call of the plain engine keeps, refused or not: 64 tags, none below zero with the sum added, and a clock
-- that equals link time.
-- Assumes nothing.
use Rattle.std.specs.Prelude.{◌≡◌, Bool, cond, List, ℕ, ◌+◌, ◌<◌, ltb, eqb, ℤ, pos, length, get_or, set, replicate}
use Rattle.std.proofs.Math.Path.{refl}
use Rattle.std.proofs.Common.{ap, ◌∙◌, arith, get_or-set_other}
use Rattle.std.proofs.Math.Bool.{true, false}
use Rattle.std.proofs.Math.Decide.{ℕ_discrete}
use Rattle.std.proofs.Math.ListN.{length-set}
use Rattle.std.proofs.lemmas.List.{length-replicate, get_or-replicate}
use Rattle.std.proofs.Math.Seq.{get_or-set_same}
use Rattle.below.specs.Listed.{length_listed}
use Rattle.cost.specs.Charge.{charge_of, link_ticks}
use Rattle.reply.specs.Reply.{Reply, idle, done, refused}
use Rattle.reply.specs.State.{state, demand, unless_refused, opened_by}
use Rattle.queues.specs.Queue.{Queue, cost_to, joined, left}
use Rattle.queues.specs.Places.{lent, freed_of}
use Rattle.queues.specs.Laws.{join_cases}
use Rattle.tags.specs.Chosen.{leads}
use Rattle.queues.specs.Opening.{lists_reply}
use Rattle.signs.specs.Tags as signs
use Rattle.signs.specs.Raise.{above, above_lowered}
use Rattle.uplink.specs.Opening as first_opening
use Rattle.uplink.specs.Formed.{Formed, formed_out}
use Rattle.uplink.specs.Pick.{clock_limit}
use Rattle.uplink.specs.Calls.{Call, opening, arrival, pick}
use Rattle.backward.specs.Record.{tag_of, queue_of, waiting_of, put, moved, lowered, rested, unleapt, blank}
use Rattle.backward.specs.Raised.{raised_record}
use Rattle.backward.specs.State.{State, Outcome}
use Rattle.backward.specs.Form.{formed}
use Rattle.backward.specs.Formed.{lowered_tag}
use Rattle.backward.specs.Opening.{opening_rule}
use Rattle.backward.specs.Arrival.{store_rule, arrival_rule}
use Rattle.backward.specs.Pick.{lead_of, leapt, chosen_record, leapt_record, served_rule, serve_rule, idle_rule, choose_rule}
use Rattle.backward.specs.Pick.{pick_rule}
use Rattle.backward.specs.Calls.{after_call}
use Rattle.backward.specs.declared.Record.{Record}

pub record Sound (r : Record) : Type 0 where
  pub wide : length r.tags.0 ≡ 64
  pub over : (f : ℕ) → f < 64 → above r.sum.0 (tag_of r f) ≡ true
  pub even : r.clock.0 ≡ r.link.0

-- tags of 0
no_tags : (r : Record) → r.tags.0 ≡ replicate 64 (pos 0) → r.clock.0 ≡ r.link.0 → Sound r
no_tags r e even =
    record {
      wide = ap length e ∙ length-replicate {A = ℤ} 64 (pos 0);
      over = λ f h. ap (λ tags. above r.sum.0 (get_or tags f (pos 0))) e
          ∙ ap (above r.sum.0) (get_or-replicate 64 f (pos 0) (pos 0) h);
      even = even;
    }

module _ (r : Record) (S : Sound r) where
  -- a flow put anew, with a tag that is not below zero with the sum added
  sound_put : (f : ℕ) (tag : ℤ) (queue : Queue) → above r.sum.0 tag ≡ true → Sound (put r f tag queue)
  unfolding put
  sound_put f tag queue above_zero =
      record {
        wide = length-set r.tags.0 f tag ∙ S.wide;
        over = λ g h. elim (ℕ_discrete g f)
            as (λ _. above r.sum.0 (get_or (set r.tags.0 f tag) g (pos 0)) ≡ true) [
              | yes q ↦ rw (q, get_or-set_same r.tags.0 f tag (pos 0) (omega (arith, S.wide))) above_zero
              | no q ↦ rw (get_or-set_other r.tags.0 f g tag (pos 0) q) (S.over g h)
            ];
        even = S.even;
      }

  sound_moved : (sent : ℕ) → Sound (moved r (r.clock.0 + sent) (r.link.0 + sent))
  sound_moved sent = record { wide = S.wide; over = S.over; even = ap (λ n. n + sent) S.even }

  -- a leap
  sound_lowered : Sound (lowered r)
  unfolding lowered
  sound_lowered =
      record {
        wide = length_listed (λ f. signs.lowered r.width (tag_of r f)) 0 64;
        over = λ f h. rw (lowered_tag r f h) (above_lowered r.sum.0 r.width (tag_of r f) (S.over f h));
        even = S.even;
      }

  -- with a flow chosen, after a leap or without one
  sound_leapt : (f : ℕ) → Sound (leapt_record r f)
  unfolding lowered
  sound_leapt f = go (leapt r f)
    where
      go : (b : Bool) → Sound (cond b (lowered (chosen_record r f)) (chosen_record r f))
      go true = let L = sound_lowered in record { wide = L.wide; over = L.over; even = L.even }
      go false = record { wide = S.wide; over = S.over; even = S.even }

  -- the flow's tag after an arrival or a pick: of a packet that comes to the front, or as it was
  next_over : (f clock cost charge : ℕ) → f < 64 → (b : Bool)
      → above r.sum.0 (cond b (signs.front_tag (tag_of r f) clock cost charge) (tag_of r f)) ≡ true
  next_over f clock cost charge h true = refl
  next_over f clock cost charge h false = S.over f h

-- refusals 1 and 2
checked_sound : (s : State) (a b : Bool) (on : Outcome) → Sound s.held
    → (b ≡ true → Sound on.state.held) → Sound (demand a 1 s (demand b 2 s on)).state.held
checked_sound s true true on S k = k refl
checked_sound s true false on S k = S
checked_sound s false b on S k = S

-- an opening gives the record of the table or the blank one
pub sound_opening : (s : State) (shares largest : List ℕ) (header : ℕ)
    → Sound (opening_rule shares largest header s.lengths s.handles).state.held
unfolding opening_rule first_opening.new_record
sound_opening s shares largest header = go (lists_reply shares largest header s.lengths s.handles)
  where
    go : (reply : Reply)
        → Sound (opened_by reply (unleapt (first_opening.new_record shares largest header)) blank s.lengths
        s.handles).state.held
    go idle = no_tags blank refl refl
    go (done values) = no_tags (unleapt (first_opening.new_record shares largest header)) refl refl
    go (refused number flow) = no_tags blank refl refl

module _ (s : State) (S : Sound s.held) where
  sound_arrival : (f n handle : ℕ) → Sound (arrival_rule s f n handle).state.held
  unfolding arrival_rule store_rule
  sound_arrival f n handle =
      checked_sound s (lent s.lengths s.handles) (formed s.held s.lengths) _ S λ fine.
      let F = formed_out (raised_record s.held) s.lengths fine in
      let q = queue_of s.held f in
      join_cases s.held.flows f n q.largest q.waiting
      (λ reply. Sound (unless_refused reply s (store_rule s f n handle)).state.held)
      (λ taken. sound_put s.held S f _ (joined q)
      (next_over s.held S f s.held.clock.0 (cost_to q) (charge_of s.held.header n)
      (omega (arith, F.few, taken.counted)) (eqb q.waiting 0)))
      (λ number low high. S)

  -- a packet that goes
  sound_served : (f : ℕ) → f < 64 → Sound (served_rule s f).state.held
  unfolding served_rule
  sound_served f h =
      let r = s.held in
      let q = queue_of r f in
      let gone = freed_of f q.first s.lengths s.handles in
      let sent = link_ticks (charge_of r.header gone.length) in
      let next = moved r (r.clock.0 + sent) (r.link.0 + sent) in
      let N = sound_moved r S sent in
      sound_put next N f _ (left q)
      (next_over next N f next.clock.0 (cost_to q) (charge_of r.header gone.behind) h (ltb 1 q.waiting))

module _ (s : State) (S : Sound s.held) where
  sound_pick : Sound (pick_rule s).state.held
  unfolding pick_rule choose_rule idle_rule serve_rule
  sound_pick =
      checked_sound s (lent s.lengths s.handles) (formed s.held s.lengths) _ S λ fine.
      go (formed_out (raised_record s.held) s.lengths fine) (lead_of s.held).waits refl
      (ltb (s.held.clock.0 + s.held.sum.0) clock_limit)
    where
      go : Formed (raised_record s.held) s.lengths → (b : Bool) → (lead_of s.held).waits ≡ b → (c : Bool)
          → Sound (cond b (demand c 10 s (serve_rule s (lead_of s.held).flow)) (idle_rule s)).state.held
      go F false e c = no_tags (rested s.held) refl refl
      go F true e false = S
      go F true e true =
          let f = (lead_of s.held).flow in
          let chosen = (leads s.held.turn (λ g. signs.natural (tag_of s.held g)) (waiting_of s.held)
          s.held.flows).smallest e in
          sound_served (state (leapt_record s.held f) s.lengths s.handles) (sound_leapt s.held S f) f
          (omega (arith, F.few, chosen.counts))

-- Every call keeps all this.
pub sound_call : (s : State) → Sound s.held → (call : Call) → Sound (after_call s call).state.held
sound_call s S (opening shares largest header) = sound_opening s shares largest header
sound_call s S (arrival flow length handle) = sound_arrival s S flow length handle
sound_call s S pick = sound_pick s S

-- and before an opening the blank record has it
pub sound_blank : Sound blank
sound_blank = no_tags blank refl refl
