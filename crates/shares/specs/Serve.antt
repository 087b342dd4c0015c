-- A pick of a flow of smallest tag: leap, serve and front, in this order. It keeps what is steady,
-- leaves the clock at or below the tag, and of the flows that wait it moves the start of its own alone.
-- Assumes nothing.
use Rattle.std.specs.Prelude.{◌≡◌, Bool, true, false, ℕ, ◌+◌, ◌*◌, ◌%◌, ◌≤◌, ◌<◌, eqb}
use Rattle.std.proofs.Math.Path.{refl, sym}
use Rattle.std.proofs.Common.{◌∙◌, arith, get_or-set_other}
use Rattle.std.proofs.Math.Bool.{cond}
use Rattle.std.proofs.Math.Decide.{ℕ_discrete, dec_le}
use borrow.Author.Tests.{eq-eqb, ne_eqb, lt-ltb, le-ltb, ltb-true}
use Rattle.cost.specs.Charge.{charge_ticks, link_ticks}
use Rattle.queues.specs.Queue.{place_of}
use Rattle.queues.specs.Form.{ranged, queue_formed}
use Rattle.queues.specs.Laws.{Ranged, ranged_out, ranged_in, queue_at_lem, queue_in, place_apart}
use Rattle.tags.specs.Ticks.{leaps, front_tag}
use Rattle.tags.specs.Choice.{Smallest}
use Rattle.tags.specs.Laws.{tag_at_most, leap_low, leap_high, leap_near}
use Rattle.uplink.specs.Flow.{Flow, flow_cost, served_flow}
use Rattle.uplink.specs.Record.{tag_of, waiting_of}
use Rattle.uplink.specs.State.{State}
use Rattle.uplink.specs.Form.{clock_end}
use Rattle.uplink.specs.Formed.{FlowFormed, width_most}
use Rattle.uplink.specs.Pick.{clock_limit, behind_length, front_charge, behind_charge, clock_leapt, clock_after}
use Rattle.uplink.specs.Put.{Put, put_state, served_put, length_in, put_each}
use Rattle.shares.specs.Keep.{Sound, View, Good, Change, unchanged, change_again, front_good, leap_good, in_time}
use Rattle.shares.specs.Keep.{serve_good}
use Rattle.shares.specs.Bridge.{flow_of, clock_of, table_of, view_of, Steady, charge_waits, waits_charge, charge_some}
use Rattle.shares.specs.Bridge.{table_sound, packet_fits, IdleTags}
use Rattle.shares.specs.Put.{put_charge, put_idle, put_change, put_table, put_steady}
use Rattle.shares.specs.Start.{behind, MovesAt, same_moves, moves_then, front_moves, serve_moves}

module _ (s : State) (f : ℕ) where
  -- what the pick puts, flow f before and after, and the state after
  abbrev served : Put
  served = served_put s f

  abbrev old : Flow
  old = flow_of s f

  abbrev new : Flow
  new = served.flow

  abbrev after : State
  after = put_state s served

  module _ (S : Steady s) (small : Smallest (tag_of s.held) (waiting_of s.held) s.held.flows f) where
    -- the shares pay for their bytes
    sound : Sound (table_of s)
    sound = table_sound s S.form

    -- flow f's form and ranges
    form : FlowFormed s.held s.lengths f
    form = S.form.each f small.counts

    range : Ranged old.queue
    range = ranged_out old.queue form.range

    -- the packets behind the front one stay
    served_else : (k : ℕ) → 0 < k → k < old.queue.waiting
        → length_in after.lengths f old.queue.first k ≡ length_in s.lengths f old.queue.first k
    served_else k h b = get_or-set_other s.lengths _ _ 0 0
        (place_apart f old.queue.first k 0
        range.first_below (omega (arith, range.waiting_most)) (omega arith) (λ e. omega arith))

    -- "first goes on by one, 63 to 0": each packet has one number less
    place_on : (k : ℕ) → place_of f ((old.queue.first + 1) % 64) k ≡ place_of f old.queue.first (k + 1)
    place_on k = omega arith

    -- the flow keeps its form
    serve_range : ranged new.queue ≡ true
    unfolding served_flow
    serve_range = let R = range in ranged_in new.queue (omega arith)

    serve_queue : queue_formed f after.lengths new.queue ≡ true
    unfolding served_flow
    serve_queue = queue_in f after.lengths new.queue λ k h.
        rw (place_on k, served_else (k + 1) (omega arith) (omega arith))
        (queue_at_lem f s.lengths old.queue form.queue (k + 1) (omega arith))

    -- the front packet's charge
    front_charge_lem : (view_of s).charge f ≡ front_charge s f
    front_charge_lem = charge_waits s f small.waits

    -- which is not 0
    front_some : 0 < (view_of s).charge f
    front_some = charge_some s f form.queue small.waits

    -- no flow that waits has a smaller tag
    least : (j : ℕ) → j < s.held.flows → 0 < (view_of s).charge j → (view_of s).tag f ≤ (view_of s).tag j
    least j l w = small.least j l (waits_charge s j w)

    -- leap: the backlog and the bounds with the clock of step 3
    leapt_good : Good (table_of s) (clock_leapt s.held f) (view_of s)
    leapt_good = go (leaps (clock_of s) s.held.width old.tag.0) refl
      where
        go : (b : Bool) → leaps (clock_of s) s.held.width old.tag.0 ≡ b
            → Good (table_of s) (cond b (clock_of s + s.held.width) (clock_of s)) (view_of s)
        go true e = leap_good sound (clock_of s) S.good
            λ j l w. omega (arith, ltb-true (clock_of s + 2 * s.held.width) old.tag.0 e, least j l w)
        go false e = S.good

    -- no picked packet leaves the server clock above its tag
    pub serve_in_time : clock_after s f ≤ old.tag.0
    serve_in_time = omega (
      arith,
      front_charge_lem,
      in_time sound (clock_leapt s.held f) f leapt_good small.counts front_some,
    )

    -- serve: flow f with nothing at its front
    abbrev middle : View
    middle = record { tag = (view_of s).tag; charge = λ j. cond (eqb j f) 0 ((view_of s).charge j) }

    -- only flow f changes
    middle_change : Change f old.tag.0 0 (view_of s) middle
    middle_change =
        record {
          tag_at = refl;
          charge_at = rw (eq-eqb f f refl);
          tag_else = λ j q. refl;
          charge_else = λ j q. rw (ne_eqb j f q);
        }

    -- the backlog and the bounds with the clock of step 4
    middle_good : Good (table_of s) (clock_after s f) middle
    middle_good = rw front_charge_lem at
        (serve_good sound (clock_leapt s.held f) f small.counts leapt_good middle_change front_some least
        (leap_near (clock_of s) s.held.width old.tag.0
        (tag_at_most (clock_of s) s.held.width old.tag.0 old.queue.waiting form.tag)))

    -- front: the packet behind comes to the front, where there is one
    serve_front : 1 < old.queue.waiting
        → Change f (front_tag old.tag.0 (clock_after s f) (flow_cost old) (behind_charge s f))
        (behind_charge s f) middle (view_of after)
    unfolding served_flow
    serve_front h = change_again middle_change (put_change s served S small.counts
        (rw (lt-ltb 1 old.queue.waiting h))
        (put_charge s served S small.counts (omega arith) ∙ rw (place_on 0, served_else 1 (omega arith) h)))

    -- and else the flow is idle
    serve_last : old.queue.waiting ≤ 1 → view_of after ≡ middle
    unfolding served_flow
    serve_last h = unchanged (change_again middle_change (put_change s served S small.counts
        (rw (le-ltb 1 old.queue.waiting h))
        (put_idle s served S small.counts (omega arith) ∙ sym middle_change.charge_at)))

    -- the packet behind is charged no more than Δ
    behind_fits : 1 < old.queue.waiting → charge_ticks (flow_cost old) (behind_charge s f) ≤ s.held.width
    behind_fits h = packet_fits s S.form f (behind_length s f) small.counts
        (queue_at_lem f s.lengths old.queue form.queue 1 h).1

    -- the backlog and the bounds after step 5
    served_good : Good (table_of s) (clock_after s f) (view_of after)
    served_good = elim (dec_le old.queue.waiting 1) as (λ _. Good (table_of s) (clock_after s f) (view_of after)) [
      | yes p ↦ rw (serve_last p) middle_good
      | no p ↦ front_good sound (clock_after s f) f (behind_charge s f) small.counts middle_good
          middle_change.charge_at (serve_front (omega arith)) (behind_fits (omega arith))
    ]

    -- the clock stays below its end
    serve_clock : clock_of s < clock_limit → clock_after s f < clock_end
    serve_clock h = omega (
      arith,
      leap_high (clock_of s) s.held.width old.tag.0,
      range.largest_high,
      S.form.header,
      width_most s.held s.lengths S.form,
      queue_at_lem f s.lengths old.queue form.queue 0 small.waits,
    )

    -- a pick keeps what is steady
    pub serve_steady : clock_of s < clock_limit → Steady after
    unfolding served_flow
    serve_steady h = put_steady s served S small.counts refl refl serve_range serve_queue served_good
        (omega (arith, S.form.link, leap_low (clock_of s) s.held.width old.tag.0)) (serve_clock h)

    -- the table stays
    pub serve_table : table_of after ≡ table_of s
    unfolding served_flow
    serve_table = put_table s served S small.counts refl refl

    -- the flow keeps its tag where nothing waits after it, and a flow that was not picked is as it was
    pub serve_idle : (told : ℕ → ℕ) → IdleTags s told → IdleTags after (λ j. cond (eqb f j) old.tag.0 (told j))
    unfolding served_flow
    serve_idle told before = put_each s served S.rows S.form small.counts
        (λ j x. x.queue.waiting ≡ 0 → x.tag.0 ≡ cond (eqb f j) old.tag.0 (told j))
        (λ e. rw (eq-eqb f f refl, le-ltb 1 old.queue.waiting (omega arith)))
        λ j q. rw (ne_eqb f j λ e. q (sym e)) (before j)

    -- the clock goes on by the packet's link ticks at the least
    pub serve_clock_on : clock_of s + link_ticks (front_charge s f) ≤ clock_after s f
    serve_clock_on = omega (arith, leap_low (clock_of s) s.held.width old.tag.0)

    -- the next front moves no start
    front_after : (g : ℕ) → MovesAt (table_of s).cost g 0 (clock_after s f) middle (clock_after s f) (view_of after)
    front_after g = elim (dec_le old.queue.waiting 1)
        as (λ _. MovesAt (table_of s).cost g 0 (clock_after s f) middle (clock_after s f) (view_of after)) [
          | yes p ↦ same_moves (table_of s).cost (clock_after s f) (serve_last p) g
          | no p ↦ front_moves (table_of s).cost (clock_after s f) f (behind_charge s f) middle_change.charge_at
              (serve_front (omega arith)) g
        ]

    -- what is picked of flow g
    abbrev of_flow : ℕ → ℕ
    of_flow g = cond (eqb f g) (front_charge s f) 0

    -- so each flow moves by what is picked of it
    pub served_moves : (g : ℕ)
        → MovesAt (table_of s).cost g (of_flow g) (clock_of s) (view_of s) (clock_after s f) (view_of after)
    served_moves g = moves_then (rw front_charge_lem at
        (serve_moves (table_of s).cost (clock_of s) (clock_after s f) f (omega (arith, serve_clock_on)) middle_change g))
        (front_after g)

    module _ (h : ℕ) (counts : h < s.held.flows) (waits : 0 < (flow_of s h).queue.waiting) where
      -- the clock does not pass the tag of a flow that waits
      pub served_before : clock_after s f ≤ (view_of s).tag h
      served_before = omega (arith, serve_in_time, small.least h counts waits)

      -- and what is picked of flow g is no more than its start is behind that tag
      pub served_turn : (g : ℕ) → let cost = (table_of s).cost g in
          of_flow g * cost ≤ behind ((view_of s).tag h) cost (clock_of s) ((view_of s).tag g) ((view_of s).charge g)
      served_turn g = let cost = (table_of s).cost g in elim (ℕ_discrete g f)
          as (λ _. of_flow g * cost ≤ behind ((view_of s).tag h) cost (clock_of s) ((view_of s).tag g) ((view_of s).charge g)) [
            | yes q ↦ rw (q, eq-eqb f f refl, front_charge_lem)
                (omega (arith, serve_in_time, serve_clock_on, small.least h counts waits))
            | no q ↦ rw (ne_eqb f g λ e. q (sym e)) (omega arith)
          ]
