-- An arrival that is taken keeps what is steady, and moves no flow's start.
-- Assumes nothing.
use Rattle.std.specs.Prelude.{◌≡◌, true, ℕ, ◌≤◌, ◌<◌}
use Rattle.std.proofs.Math.Path.{refl}
use Rattle.std.proofs.Common.{sym, ◌∙◌, arith, get_or-set_same, get_or-set_other, eq-eqb, ne_eqb}
use Rattle.std.proofs.Math.Decide.{ℕ_discrete}
use Rattle.cost.specs.Charge.{charge_of}
use Rattle.queues.specs.Form.{ranged, queue_formed}
use Rattle.queues.specs.Laws.{Joinable, ranged_out, ranged_in, queue_at_lem, queue_in, place_apart}
use Rattle.tags.specs.Ticks.{front_tag}
use Rattle.uplink.specs.Flow.{Flow, flow_cost, joined_flow}
use Rattle.uplink.specs.State.{State}
use Rattle.uplink.specs.Formed.{FlowFormed}
use Rattle.uplink.specs.Put.{Put, put_state, stored_put, length_in, put_each}
use Rattle.shares.specs.Keep.{Good, Change, unchanged, front_good}
use Rattle.shares.specs.Bridge.{flow_of, clock_of, table_of, view_of, Steady, charge_idle, charge_waits, table_sound}
use Rattle.shares.specs.Bridge.{packet_fits, IdleTags}
use Rattle.shares.specs.Put.{put_charge, put_change, put_table, put_steady}
use Rattle.shares.specs.Start.{MovesAt, same_moves, front_moves}

-- an arrival of n bytes at flow f that is taken
abbrev pub Joins : State → ℕ → ℕ → Type 0
Joins s f n = Joinable s.held.flows f n (flow_of s f).queue.largest (flow_of s f).queue.waiting

module _ (s : State) (f n handle : ℕ) where
  -- what the arrival puts, the packet's charge, flow f before and after, the clock, and the state after
  abbrev stored : Put
  stored = stored_put s f n handle

  abbrev charge : ℕ
  charge = charge_of s.held.header n

  abbrev old : Flow
  old = flow_of s f

  abbrev clock : ℕ
  clock = clock_of s

  abbrev new : Flow
  new = stored.flow

  abbrev after : State
  after = put_state s stored

  module _ (S : Steady s) (J : Joins s f n) where
    -- flow f is in the table and has its form
    inside : f < s.held.flows
    inside = J.counted

    form : FlowFormed s.held s.lengths f
    form = S.form.each f inside

    -- the place behind the last packet has the new length
    stored_last : (k : ℕ) → k ≡ old.queue.waiting → length_in after.lengths f old.queue.first k ≡ n
    stored_last k e = rw e (get_or-set_same s.lengths _ n 0
        (omega (arith, S.lengths_lent, S.form.few)))

    -- the others stay
    stored_else : (k : ℕ) → k < old.queue.waiting
        → length_in after.lengths f old.queue.first k ≡ length_in s.lengths f old.queue.first k
    stored_else k h = get_or-set_other s.lengths _ _ n 0
        (place_apart f old.queue.first k old.queue.waiting
        (ranged_out old.queue form.range).first_below (omega (arith, J.room)) J.room (λ e. omega arith))

    -- the flow keeps its form
    store_range : ranged new.queue ≡ true
    unfolding joined_flow
    store_range = let R = ranged_out old.queue form.range in ranged_in new.queue (omega arith)

    store_queue : queue_formed f after.lengths new.queue ≡ true
    unfolding joined_flow
    store_queue = queue_in f after.lengths new.queue λ k h.
        let length = length_in after.lengths f old.queue.first k in
        elim (ℕ_discrete k old.queue.waiting) as (λ _. (1 ≤ length) × (length ≤ old.queue.largest)) [
          | yes q ↦ rw (stored_last k q) (J.some, J.short)
          | no q ↦ rw (stored_else k (omega arith)) (queue_at_lem f s.lengths old.queue form.queue k (omega arith))
        ]

    -- front: at an empty flow the packet comes to the front
    store_front : old.queue.waiting ≡ 0
        → Change f (front_tag old.tag.0 clock (flow_cost old) charge) charge (view_of s) (view_of after)
    unfolding joined_flow
    store_front e = put_change s stored S inside
        (rw (eq-eqb old.queue.waiting 0 e))
        (put_charge s stored S inside (omega arith) ∙ rw (stored_last 0 (sym e)))

    -- behind others nothing moves
    store_behind : 0 < old.queue.waiting → view_of after ≡ view_of s
    unfolding joined_flow
    store_behind e = unchanged (put_change s stored S inside
        (rw (ne_eqb old.queue.waiting 0 (λ z. omega arith)))
        (put_charge s stored S inside (omega arith) ∙ rw (stored_else 0 e) (sym (charge_waits s f e))))

    -- the backlog and the bounds are kept
    store_good : Good (table_of s) clock (view_of after)
    store_good = elim (ℕ_discrete old.queue.waiting 0) as (λ _. Good (table_of s) clock (view_of after)) [
      | yes q ↦ front_good (table_sound s S.form) clock f charge inside S.good (charge_idle s f q) (store_front q)
          (packet_fits s S.form f n inside J.short)
      | no q ↦ rw (store_behind (omega arith)) S.good
    ]

    -- a taken arrival keeps what is steady
    pub store_steady : Steady after
    unfolding joined_flow
    store_steady = put_steady s stored S inside refl refl store_range store_queue store_good
        S.form.link S.form.clock

    -- the table stays
    pub store_table : table_of after ≡ table_of s
    unfolding joined_flow
    store_table = put_table s stored S inside refl refl

    -- a flow with nothing waiting after it is as it was
    pub store_idle : (told : ℕ → ℕ) → IdleTags s told → IdleTags after told
    unfolding joined_flow
    store_idle told before = put_each s stored S.rows S.form inside
        (λ j x. x.queue.waiting ≡ 0 → x.tag.0 ≡ told j) (λ e. absurd (omega arith)) λ j _. before j

    -- no flow's start moves
    pub store_moves : (g : ℕ) → MovesAt (table_of s).cost g 0 clock (view_of s) clock (view_of after)
    store_moves g = elim (ℕ_discrete old.queue.waiting 0)
        as (λ _. MovesAt (table_of s).cost g 0 clock (view_of s) clock (view_of after)) [
          | yes q ↦ front_moves (table_of s).cost clock f charge (charge_idle s f q) (store_front q) g
          | no q ↦ same_moves (table_of s).cost clock (store_behind (omega arith)) g
        ]
