-- One flow put anew, and with it the length and the handle of one of its packets, the clock and the link time:
-- what a taken arrival and a served pick come to. What stays, and that the form is kept where the flow keeps its own.
-- Assumes nothing.
use Rattle.std.specs.Prelude.{◌≡◌, ◌≢◌, Bool, true, false, cond, List, ℕ, ◌≤◌, ◌<◌, get_or, set}
use Rattle.std.proofs.Math.Path.{refl}
use Rattle.std.proofs.Common.{◌∙◌, arith, get_or-set_other}
use Rattle.std.proofs.Math.Decide.{ℕ_discrete}
use Rattle.below.specs.Below.{sum_below_same, most_below_same}
use Rattle.cost.specs.Charge.{charge_of}
use Rattle.queues.specs.Queue.{place_of}
use Rattle.queues.specs.Queues.{shares_of, width_of}
use Rattle.queues.specs.Form.{ranged, queue_formed}
use Rattle.queues.specs.Laws.{queue_at_lem, queue_in, place_other}
use Rattle.tags.specs.Form.{tag_formed}
use Rattle.tags.specs.Ticks.{ticks}
use Rattle.tags.specs.Choice.{turn_after}
use Rattle.uplink.specs.Flow.{Flow, flow_cost, joined_flow, served_flow}
use Rattle.uplink.specs.Record.{flow_at, tag_of, waiting_of, moved, turned, put, Rows, moved_rows, put_rows}
use Rattle.uplink.specs.Record.{put_here, put_else}
use Rattle.reply.specs.State.{state}
use Rattle.uplink.specs.State.{State}
use Rattle.uplink.specs.Form.{clock_end}
use Rattle.uplink.specs.Formed.{Formed}
use Rattle.uplink.specs.Arrival.{store_rule}
use Rattle.uplink.specs.Pick.{behind_charge, clock_after, link_on, serve_rule}
use Rattle.uplink.specs.declared.Record.{Record}

-- flow `index` becomes `flow`, its packet of number `number` gets a length and a handle, and the clocks are set; it was
-- picked or not
pub record Put : Type 0 where
  pub index : ℕ
  pub flow : Flow
  pub number : ℕ
  pub bytes : ℕ
  pub handle : ℕ
  pub clock : ℕ
  pub link : ℕ
  pub picked : Bool

-- the place of that packet
abbrev pub put_place : State → Put → ℕ
put_place s p = place_of p.index (flow_at s.held p.index).queue.first p.number

-- the turn after it: "one past the last flow picked" (02 e)
abbrev put_turn : State → Put → ℕ
put_turn s p = cond p.picked (turn_after p.index) s.held.turn

-- the record with its clocks and its turn set
abbrev put_clocks : State → Put → Record
put_clocks s p = turned (moved s.held p.clock p.link) (put_turn s p)

-- the state after it
abbrev pub put_state : State → Put → State
put_state s p =
    state (put (put_clocks s p) p.index p.flow)
    (set s.lengths (put_place s p) p.bytes)
    (set s.handles (put_place s p) p.handle)

-- an arrival of n bytes that is taken at flow f
abbrev pub stored_put : State → ℕ → ℕ → ℕ → Put
stored_put s f n handle =
    let w = flow_at s.held f in
    record {
      index = f;
      flow = joined_flow w s.held.clock (flow_cost w) (charge_of s.held.header n);
      number = w.queue.waiting;
      bytes = n;
      handle = handle;
      clock = s.held.clock.0;
      link = s.held.link.0;
      picked = false;
    }

pub store_put : (s : State) (f n handle : ℕ) → (store_rule s f n handle).state ≡ put_state s (stored_put s f n handle)
unfolding store_rule
store_put s f n handle = refl

-- a pick of flow f that is served
abbrev pub served_put : State → ℕ → Put
served_put s f =
    let w = flow_at s.held f in
    record {
      index = f;
      flow = served_flow w (ticks (clock_after s f)) (flow_cost w) (behind_charge s f);
      number = 0;
      bytes = 0;
      handle = 0;
      clock = clock_after s f;
      link = link_on s f;
      picked = true;
    }

pub serve_put : (s : State) (f : ℕ) → (serve_rule s f).state ≡ put_state s (served_put s f)
unfolding serve_rule
serve_put s f = refl

-- the length of the packet of number k of flow f, whose first is at `first`
abbrev pub length_in : List ℕ → ℕ → ℕ → ℕ → ℕ
length_in lengths f first k = get_or lengths (place_of f first k) 0

module _ (s : State) (p : Put) where
  -- the state after it, the flow's number and the flow
  abbrev next : State
  next = put_state s p

  abbrev f : ℕ
  f = p.index

  abbrev w : Flow
  w = p.flow

  -- the header stays
  pub put_header : next.held.header ≡ s.held.header
  unfolding put
  put_header = refl

  -- the packets of other flows stay
  pub place_else : (j first i : ℕ) → j ≢ f → length_in next.lengths j first i ≡ length_in s.lengths j first i
  place_else j first i q = get_or-set_other s.lengths _ _ p.bytes 0
      (place_other j f first (flow_at s.held f).queue.first i p.number q)

  -- and so do the flows
  pub flow_else : (j : ℕ) → j ≢ f → flow_at next.held j ≡ flow_at s.held j
  flow_else j q = put_else (put_clocks s p) f j w q

  module _ (R : Rows s.held) (F : Formed s.held s.lengths) (l : f < s.held.flows) where
    -- the record has its 64 rows
    clocks_rows : Rows (put_clocks s p)
    clocks_rows = moved_rows s.held p.clock p.link (put_turn s p) R

    pub next_rows : Rows next.held
    next_rows = put_rows (put_clocks s p) f w clocks_rows

    -- flow f is the new one
    pub flow_here : flow_at next.held f ≡ w
    flow_here = put_here (put_clocks s p) f w clocks_rows (omega (arith, F.few))

    -- the turn keeps its range
    put_turn_lem : put_turn s p < 64
    put_turn_lem = go p.picked
      where
        go : (b : Bool) → cond b (turn_after f) s.held.turn < 64
        go true = omega arith
        go false = F.turn

    -- what holds of flow f, and held of every other, holds of each
    pub put_each : (P : ℕ → Flow → Type 0) → P f w → ((j : ℕ) → j ≢ f → P j (flow_at s.held j))
        → (j : ℕ) → P j (flow_at next.held j)
    put_each P here else j = elim (ℕ_discrete j f) as (λ _. P j (flow_at next.held j)) [
      | yes q ↦ rw (q, flow_here) here
      | no q ↦ rw (flow_else j q) (else j q)
    ]

    module _ (share : w.queue.share ≡ (flow_at s.held f).queue.share)
        (largest : w.queue.largest ≡ (flow_at s.held f).queue.largest) where
      -- every flow keeps its share and its largest packet
      pub put_share : (j : ℕ) → (flow_at next.held j).queue.share ≡ (flow_at s.held j).queue.share
      put_share = put_each (λ j x. x.queue.share ≡ (flow_at s.held j).queue.share) share λ j _. refl

      put_largest : (j : ℕ) → (flow_at next.held j).queue.largest ≡ (flow_at s.held j).queue.largest
      put_largest = put_each (λ j x. x.queue.largest ≡ (flow_at s.held j).queue.largest) largest λ j _. refl

      module _ (range : ranged w.queue ≡ true) (queue : queue_formed f next.lengths w.queue ≡ true) where
        -- every queue keeps its form
        put_queue_lem : (j : ℕ) → j < s.held.flows
            → queue_formed j next.lengths (flow_at next.held j).queue ≡ true
        put_queue_lem = put_each (λ j x. j < s.held.flows → queue_formed j next.lengths x.queue ≡ true) (λ _. queue)
            λ j q b. let v = (flow_at s.held j).queue in queue_in j next.lengths v λ i e.
            rw (place_else j v.first i q) (queue_at_lem j s.lengths v (F.each j b).queue i e)

        -- the form is kept where every flow with its queue in form has its tag in form
        pub put_formed : ((j : ℕ) → j < s.held.flows
            → queue_formed j next.lengths (flow_at next.held j).queue ≡ true
            → tag_formed p.clock s.held.width (tag_of next.held j) (waiting_of next.held j) ≡ true)
            → p.link ≤ p.clock → p.clock < clock_end → Formed next.held next.lengths
        unfolding put shares_of width_of
        put_formed tag low high =
            record {
              some = F.some;
              few = F.few;
              header = F.header;
              shares = rw (sum_below_same _ _ s.held.flows λ j _. put_share j) F.shares;
              width = most_below_same _ _ s.held.flows (λ j _. rw (put_share j, put_largest j)) ∙ F.width;
              each = λ j b.
                  record {
                    range = put_each (λ j x. j < s.held.flows → ranged x.queue ≡ true) (λ _. range)
                        (λ j _ b. (F.each j b).range) j b;
                    queue = put_queue_lem j b;
                    tag = tag j b (put_queue_lem j b);
                  };
              link = low;
              clock = high;
              rest = λ j b e. rw (flow_else j λ q. omega arith) (F.rest j b e);
              turn = put_turn_lem;
            }
