-- Each step of the plain engine, with the sum added, is the first engine's step: a flow put anew, a leap, a packet that
-- goes, Idle.
-- Assumes nothing.
use Rattle.std.specs.Prelude.{◌≡◌, refl, true, false, cond, List, [], ℕ, ◌+◌, ◌*◌, ◌<◌, ltb, eqb, ℤ, pos, get_or, set, length, replicate}
use Rattle.std.proofs.Math.Path.{sym, ap, ap₂}
use Rattle.std.proofs.Common.{◌∙◌, zero-add, get_or-set_same, get_or-set_other}
use Rattle.std.proofs.Math.Bool.{Bool}
use native.Mathlib.Omega.{arith}
use Rattle.below.specs.Truth.{same_lt}
use Rattle.below.specs.Listed.{listed, listed_same, listed_set}
use Rattle.cost.specs.Charge.{charge_of, link_ticks}
use Rattle.reply.specs.Reply.{done}
use Rattle.reply.specs.State.{StateOf, state, outcome}
use Rattle.queues.specs.Queue.{Queue, place_of, cost_to, joined, left}
use Rattle.queues.specs.Places.{freed_of}
use Rattle.tags.specs.Ticks as forward
use Rattle.tags.specs.Choice.{turn_after}
use Rattle.signs.specs.Tags.{natural, raised, front_tag}
use Rattle.signs.specs.Raise.{above, raised_front, raised_lowered}
use Rattle.uplink.specs.Flow as flow
use Rattle.uplink.specs.Record as first
use Rattle.uplink.specs.Arrival as first_arrival
use Rattle.uplink.specs.Pick as pick
use Rattle.uplink.specs.declared.Record as declared
use Rattle.uplink.specs.Formed.{Formed}
use Rattle.backward.specs.Record.{tag_of, queue_of, waiting_of, put, moved, lowered, rested, unleapt}
use Rattle.backward.specs.Raised.{raised_record}
use Rattle.backward.specs.Formed.{raised_tag, lowered_tag, all_above, waiting_tag}
use Rattle.backward.specs.State.{State}
use Rattle.backward.specs.Arrival.{store_rule}
use Rattle.backward.specs.Pick.{leapt, chosen_record, leapt_record, served_rule}
use Rattle.backward.specs.declared.Record.{Record}
use Rattle.equal.specs.Raised.{raised_state, raised_outcome}

-- the record has its 64 tags
abbrev pub Wide : Record → Type 0
Wide r = length r.tags.0 ≡ 64

-- the record with its raised tags given
abbrev with_tags : declared.Record → List ℕ → declared.Record
with_tags r tags = first.with r r.clock r.link (first.tags_of tags) r.queues r.turn

-- a flow put anew
pub raised_put : (r : Record) (f : ℕ) (tag : ℤ) (queue : Queue) (t : ℕ) → Wide r → f < 64 → raised r.sum.0 tag ≡ t
    → first.put (raised_record r) f (flow.flow_of t queue) ≡ raised_record (put r f tag queue)
unfolding put first.put
raised_put r f tag queue t wide h e =
    ap (with_tags (raised_record (put r f tag queue)))
    (listed_set (λ g. raised r.sum.0 (tag_of r g))
    (λ g. raised r.sum.0 (get_or (set r.tags.0 f tag) g (pos 0)))
    0 64 f t h
    (rw (zero-add, get_or-set_same r.tags.0 f tag (pos 0) (omega (arith, wide))) e)
    (λ g d. ap (raised r.sum.0) (sym (get_or-set_other r.tags.0 f g tag (pos 0) (λ q. d (omega arith))))))

-- a leap: the clock stays and all tags go down, or the clock goes on
module _ (r : Record) (lengths : List ℕ) (F : Formed (raised_record r) lengths) where
  pub raised_leap :
      first.moved (raised_record r) (r.clock.0 + r.sum.0 + r.width) r.link.0 ≡ raised_record (lowered r)
  unfolding lowered
  raised_leap =
      ap₂ (λ clock tags. first.with (raised_record r) (forward.ticks clock) r.link (first.tags_of tags) r.queues
      r.turn)
      (omega arith)
      (listed_same (λ f. raised r.sum.0 (tag_of r f)) (λ f. raised (r.sum.0 + r.width) (tag_of (lowered r) f)) 0 64
      (λ f low high. let h : f < 64 = omega arith in
      sym (ap (raised (r.sum.0 + r.width)) (lowered_tag r f h)
      ∙ raised_lowered r.sum.0 r.width (tag_of r f) (all_above r lengths F f h))))

  -- step 3 at a flow that waits
  module _ (f : ℕ) (l : f < r.flows) (w : 0 < waiting_of r f) where
    -- its tag
    pub raised_waits : first.tag_of (raised_record r) f ≡ natural (tag_of r f) + r.sum.0
    raised_waits = raised_tag r f (omega (arith, F.few)) ∙ (waiting_tag r lengths F f l w).0

    -- it leaps where the first engine does
    pub leapt_alike : pick.leapt (raised_record r) f ≡ leapt r f
    leapt_alike =
        ap (λ tag. ltb (r.clock.0 + r.sum.0 + 2 * r.width) tag) raised_waits
        ∙ same_lt (r.clock.0 + r.sum.0 + 2 * r.width) (natural (tag_of r f) + r.sum.0)
        (r.clock.0 + 2 * r.width) (natural (tag_of r f)) (λ h. omega arith) (λ h. omega arith)

    -- and as the first engine does
    pub raised_leapt :
        first.turned (first.moved (raised_record r) (pick.clock_leapt (raised_record r) f) r.link.0) (turn_after f)
        ≡ raised_record (leapt_record r f)
    unfolding lowered
    raised_leapt = ap at leapt_alike ∙ go (leapt r f)
      where
        at : Bool → declared.Record
        at b = first.turned (first.moved (raised_record r)
            (cond b (r.clock.0 + r.sum.0 + r.width) (r.clock.0 + r.sum.0)) r.link.0) (turn_after f)

        go : (b : Bool) → at b ≡ raised_record (cond b (lowered (chosen_record r f)) (chosen_record r f))
        go true = ap (λ next. first.turned next (turn_after f)) raised_leap
        go false = refl

-- the tag of a flow after an arrival or a pick: of a packet that comes to the front, or as it was
raised_next : (sum : ℕ) (z : ℤ) (clock cost charge : ℕ) → above sum z ≡ true → (b : Bool)
    → raised sum (cond b (front_tag z clock cost charge) z)
    ≡ cond b (forward.front_tag (raised sum z) (clock + sum) cost charge) (raised sum z)
raised_next sum z clock cost charge above true = raised_front sum z clock cost charge above
raised_next sum z clock cost charge above false = refl

module _ (s : State) (f : ℕ) (wide : Wide s.held) (h : f < 64)
    (over : above s.held.sum.0 (tag_of s.held f) ≡ true) where
  -- the tag in the words of the first engine
  next_tag : (clock cost charge : ℕ) (b : Bool) → let T = first.tag_of (raised_record s.held) f in
      raised s.held.sum.0 (cond b (front_tag (tag_of s.held f) clock cost charge) (tag_of s.held f))
      ≡ cond b (forward.front_tag T (clock + s.held.sum.0) cost charge) T
  next_tag clock cost charge b =
      raised_next s.held.sum.0 (tag_of s.held f) clock cost charge over b
      ∙ ap (λ T. cond b (forward.front_tag T (clock + s.held.sum.0) cost charge) T) (sym (raised_tag s.held f h))

  -- a packet that is stored
  pub raised_stored : (n handle : ℕ)
      → first_arrival.store_rule (raised_state s) f n handle ≡ raised_outcome (store_rule s f n handle)
  unfolding store_rule first_arrival.store_rule flow.joined_flow
  raised_stored n handle =
      let q = queue_of s.held f in
      let place = place_of f q.first q.waiting in
      ap (λ r. outcome (done []) r (set s.lengths place n) (set s.handles place handle))
      (raised_put s.held f _ (joined q) _ wide h
      (next_tag s.held.clock.0 (cost_to q) (charge_of s.held.header n) (eqb q.waiting 0)))

  -- a packet that goes
  pub raised_served : pick.advanced_state (raised_state s) f ≡ raised_state (served_rule s f).state
  unfolding served_rule flow.served_flow
  raised_served =
      let r = s.held in
      let q = queue_of r f in
      let gone = freed_of f q.first s.lengths s.handles in
      let sent = link_ticks (charge_of r.header gone.length) in
      let charge = charge_of r.header gone.behind in
      let clock = r.clock.0 + sent in
      let place = place_of f q.first 0 in
      let T = first.tag_of (raised_record r) f in
      let after : declared.Record → StateOf declared.Record =
      λ next. state next (set s.lengths place 0) (set s.handles place 0) in
      ap (λ now. after (first.put (first.moved (raised_record r) now (r.link.0 + sent)) f
      (flow.flow_of (cond (ltb 1 q.waiting) (forward.front_tag T now (cost_to q) charge) T) (left q))))
      (omega arith)
      ∙ ap after (raised_put (moved r clock (r.link.0 + sent)) f _ (left q) _ wide h
      (next_tag clock (cost_to q) charge (ltb 1 q.waiting)))

-- tags of 0 and nothing leapt
no_tags : listed (λ f. raised 0 (get_or (replicate 64 (pos 0)) f (pos 0))) 0 64 ≡ replicate 64 0
unfolding listed
no_tags = refl

-- Idle
pub raised_rested : (r : Record) → first.rested (raised_record r) ≡ raised_record (rested r)
raised_rested r = ap (with_tags (first.rested (raised_record r))) (sym no_tags)

-- a record in which nothing is tagged and nothing has leapt
pub raised_unleapt : (r : declared.Record) → r.tags.0 ≡ replicate 64 0 → r ≡ raised_record (unleapt r)
raised_unleapt r e =
    ap₂ (λ clock tags. first.with r (forward.ticks clock) r.link (first.tags_of tags) r.queues r.turn)
    (omega arith) (e ∙ sym no_tags)
