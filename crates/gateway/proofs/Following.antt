-- What an arrival and a pick leave of a state, on every path: they change no more than the words that are written, and
-- a refused one changes nothing.
-- Assumes nothing.
use mathlib.Core.Path.{◌≡◌, refl, sym, ap}
use mathlib.Core.Bool.{Bool, true, false, cond}
use mathlib.Core.List.{List, []}
use Prim.Native.Nat.{ℕ, ◌%◌, ◌≤◌, ◌<◌}
use native.Mathlib.Omega.{arith}
use lib.Dec.{ltb}
use lib.ListN.{length, get_or, set}
use lib.Seq.{get_or-set_same, set-get_or}
use Rattle.reply.specs.Reply.{Reply, idle, done, refused}
use Rattle.reply.specs.Replies.{refused_done}
use Rattle.queues.specs.Queues.{put_queue}
use Rattle.queues.specs.Places.{lent}
use Rattle.queues.specs.Laws.{join_cases}
use Rattle.tags.specs.declared.LinkTicks.{LinkTicks}
use Rattle.tags.specs.declared.ServerTicks.{ServerTicks}
use Rattle.uplink.specs.Flow.{Flow, joined_flow, served_flow}
use Rattle.uplink.specs.Record.{flow_at, tag_of, with, put, rested, Rows}
use Rattle.reply.specs.State.{outcome, demand, unless_refused}
use Rattle.uplink.specs.State.{State, Outcome}
use Rattle.uplink.specs.Form.{formed, checked}
use Rattle.uplink.specs.Formed.{formed_out}
use Rattle.uplink.specs.Arrival.{store_rule, join_rule, arrival_rule}
use Rattle.uplink.specs.Pick.{clock_limit, lead_of, serve_rule, idle_rule, choose_rule, pick_rule}
use Rattle.uplink.specs.Leading.{lead_smallest}
use Rattle.uplink.specs.declared.Record.{Record}
use Rattle.gateway.specs.Step.{flow_in, Kept}

-- o follows s, where the reply tells by `at` the flow whose words are written
pub record Follows (s : State) (at : Reply → ℕ) (o : Outcome) : Type 0 where
  pub kept : Kept s.held o.state.held (at o.reply)
  pub tags : (o.reply ≡ idle → ⊥)
      → o.state.held.tags.0 ≡ set s.held.tags.0 (at o.reply) (tag_of o.state.held (at o.reply))
  pub same : (number flow : ℕ) → o.reply ≡ refused number flow → o.state ≡ s

-- nothing changed
kept_same : (r : Record) (f : ℕ) → f < 64 → Kept r r f
kept_same r f h =
    record {
      below = h;
      flows = refl;
      header = refl;
      width = refl;
      share = refl;
      largest = refl;
      first = sym (set-get_or r.queues.first f 0);
      waiting = sym (set-get_or r.queues.waiting f 0);
    }

-- a store and what then stands there
set_own : (l : List ℕ) (f x : ℕ) → f < length l → set l f x ≡ set l f (get_or (set l f x) f 0)
set_own l f x h = ap (set l f) (sym (get_or-set_same l f x 0 h))

module _ (s : State) (at : Reply → ℕ) where
  follows_refused : (number flow : ℕ) → at (refused number flow) < 64
      → Follows s at (record { reply = refused number flow; state = s })
  follows_refused number flow h =
      record {
        kept = kept_same s.held _ h;
        tags = λ _. sym (set-get_or s.held.tags.0 _ 0);
        same = λ _ _ _. refl;
      }

  follows_idle : at idle < 64 → Follows s at (outcome idle (rested s.held) s.lengths s.handles)
  follows_idle h =
      record {
        kept =
            record {
              below = h;
              flows = refl;
              header = refl;
              width = refl;
              share = refl;
              largest = refl;
              first = sym (set-get_or s.held.queues.first _ 0);
              waiting = sym (set-get_or s.held.queues.waiting _ 0);
            };
        tags = λ busy. absurd (busy refl);
        same = λ number flow e. let z : ◌≡◌ {A = ℕ} 0 1 = cc in absurd (omega arith);
      }

  -- one flow is put anew, with its bookings as they were
  follows_put : (values : List ℕ) (clock : ServerTicks) (link : LinkTicks) (turn f : ℕ) (w : Flow)
      (lengths handles : List ℕ)
      → Rows s.held → f < 64 → at (done values) ≡ f → w.queue.share ≡ (flow_at s.held f).queue.share
      → w.queue.largest ≡ (flow_at s.held f).queue.largest
      → Follows s at
      (outcome (done values) (put (with s.held clock link s.held.tags s.held.queues turn) f w) lengths
      handles)
  unfolding put put_queue
  follows_put values clock link turn f w lengths handles R h e share largest = let r = s.held in
      record {
        kept = rw e record {
          below = h;
          flows = refl;
          header = refl;
          width = refl;
          share = rw (share, set-get_or r.queues.share f 0);
          largest = rw (largest, set-get_or r.queues.largest f 0);
          first = set_own r.queues.first f w.queue.first (omega (arith, R.queues.first));
          waiting = set_own r.queues.waiting f w.queue.waiting (omega (arith, R.queues.waiting));
        };
        tags = λ _. rw e (set_own r.tags.0 f w.tag.0 (omega (arith, R.tags)));
        same = λ number flow e. refused_done (sym e);
      }

  follows_else : (b : Bool) (number : ℕ) {on : Outcome} → at (refused number 0) < 64 → (b ≡ true → Follows s at on)
      → Follows s at (demand b number s on)
  follows_else true number h k = k refl
  follows_else false number h k = follows_refused number 0 h

  follows_checked : {on : Outcome} → ((number : ℕ) → at (refused number 0) < 64)
      → (formed s.held s.lengths ≡ true → Follows s at on) → Follows s at (checked s on)
  unfolding checked
  follows_checked h k =
      follows_else (lent s.lengths s.handles) 1 (h 1) λ _.
      follows_else (formed s.held s.lengths) 2 (h 2) k

-- an arrival at flow f
module _ (s : State) (R : Rows s.held) (f n handle : ℕ) where
  joined_follows : s.held.flows ≤ 64 → Follows s (λ _. f % 64) (join_rule s f n handle)
  unfolding join_rule store_rule joined_flow
  joined_follows few = let w = (flow_at s.held f).queue in
      join_cases s.held.flows f n w.largest w.waiting
      (λ reply. Follows s (λ _. f % 64) (unless_refused reply s (store_rule s f n handle)))
      (λ taken. follows_put s (λ _. f % 64) [] _ _ _ f _ _ _ R (omega (arith, taken.counted, few))
      (omega (arith, taken.counted, few)) refl refl)
      (λ number _ _. follows_refused s (λ _. f % 64) number 0 (omega arith))

  pub arrival_follows : Follows s (λ _. f % 64) (arrival_rule s f n handle)
  arrival_follows = follows_checked s (λ _. f % 64) (λ _. omega arith) λ fine.
      joined_follows (formed_out s.held s.lengths fine).few

-- a pick
module _ (s : State) (R : Rows s.held) where
  choice_follows : (b : Bool) → (lead_of s.held).waits ≡ b → s.held.flows ≤ 64
      → Follows s flow_in
      (cond b (demand (ltb s.held.clock.0 clock_limit) 10 s (serve_rule s (lead_of s.held).flow)) (idle_rule s))
  unfolding serve_rule idle_rule served_flow
  choice_follows false e few = follows_idle s flow_in (omega arith)
  choice_follows true e few =
      let lead = lead_of s.held in
      let below = (lead_smallest s.held e).counts in
      follows_else s flow_in (ltb s.held.clock.0 clock_limit) 10 (omega arith) λ _.
      follows_put s flow_in _ _ _ _ lead.flow _ _ _ R (omega (arith, below, few)) (omega (arith, below, few)) refl
      refl

  pub pick_follows : Follows s flow_in (pick_rule s)
  unfolding choose_rule
  pick_follows = follows_checked s flow_in (λ _. omega arith) λ fine.
      choice_follows _ refl (formed_out s.held s.lengths fine).few
