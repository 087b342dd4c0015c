-- One call on a steady state: the four ways it may go (`Ways`), and what holds whichever it goes.
-- Assumes nothing.
use Rattle.std.specs.Prelude.{◌≡◌, Bool, cond, ℕ, ◌+◌, ◌*◌, max, ◌≤◌, ◌<◌, ltb}
use Rattle.std.proofs.Math.Path.{refl}
use Rattle.std.proofs.Common.{sym, ap, ◌∙◌}
use Rattle.std.proofs.Math.Bool.{true, false}
use native.Mathlib.Omega.{arith}
use borrow.Author.Tests.{ltb-true, ltb-false, eq-eqb}
use Rattle.below.specs.Truth.{both_of_lem}
use Rattle.reply.specs.Reply.{idle, refused, reply_number}
use Rattle.reply.specs.Replies.{refused_done, idle_done, idle_refused}
use Rattle.queues.specs.Places.{lent}
use Rattle.queues.specs.Laws.{join_cases, queue_at_lem}
use Rattle.tags.specs.Ticks.{leaps, leap_clock}
use Rattle.tags.specs.Choice.{Smallest}
use Rattle.uplink.specs.Record.{tag_of, waiting_of, put}
use Rattle.reply.specs.State.{demand, kept, unless_refused}
use Rattle.uplink.specs.State.{State, Outcome}
use Rattle.uplink.specs.Form.{checked}
use Rattle.uplink.specs.Formed.{formed_in}
use Rattle.uplink.specs.Arrival.{store_rule, join_rule}
use Rattle.uplink.specs.Pick.{clock_limit, serve_rule, idle_rule}
use Rattle.uplink.specs.Leading.{lead_nobody}
use Rattle.uplink.specs.Put.{store_put, serve_put}
use Rattle.uplink.specs.Calls.{Call, opening, arrival, pick}
use Rattle.shares.specs.Keep.{Table}
use Rattle.shares.specs.Start.{behind, MovesAt, same_moves}
use Rattle.shares.specs.Bridge.{flow_of, clock_of, table_of, view_of, IdleTags, Zeroed, Steady}
use Rattle.shares.specs.Store.{Joins, store_steady, store_table, store_idle, store_moves}
use Rattle.shares.specs.Serve.{serve_in_time, serve_steady, serve_table, serve_idle, serve_clock_on}
use Rattle.shares.specs.Serve.{served_moves, served_before, served_turn}
use Rattle.shares.specs.Idle.{Nobody, idle_steady, idle_zeroed, idle_table}
use Rattle.shares.specs.Runs.{something_waits, take_rule, Taken, Gives, Plain, charge_in, charge_for, value_in}
use Rattle.shares.specs.Runs.{tag_after, pick_in}
use Rattle.shares.specs.Opened.{Late, opening_late}

-- a call is refused: with no 1 or 2, and a pick with 10 alone, where something waits and the clock is at its limit
pub record Refuses (s : State) (call : Call) (number : ℕ) : Type 0 where
  pub late : 3 ≤ number
  pub ten : call ≡ pick → (number ≡ 10) × (something_waits s ≡ true) × (clock_limit ≤ clock_of s)

-- what P asks of each way that a call may go: refused, stored, Idle or served
pub record Ways (s : State) (call : Call) (P : Outcome → Type 0) : Type 0 where
  pub refuses : (number : ℕ) → Refuses s call number → P (kept number s)
  pub stores : (f n handle : ℕ) → Joins s f n → P (store_rule s f n handle)
  pub rests : call ≡ pick → Nobody s → P (idle_rule s)
  pub serves : call ≡ pick → (f : ℕ) → Smallest (tag_of s.held) (waiting_of s.held) s.held.flows f
      → clock_of s < clock_limit → P (serve_rule s f)

-- an arrival is no pick
arrival_pick : {A : Type 0} {f n handle : ℕ} → arrival f n handle ≡ pick → A
arrival_pick e = let z : ◌≡◌ {A = ℕ} 0 1 = cc in absurd (omega arith)

-- a test that the call goes on with, or is refused by
tested : {A : Type 0} (P : A → Type 0) (test : Bool) (on stop : A)
    → (test ≡ false → P stop) → (test ≡ true → P on) → P (cond test on stop)
tested P true on stop out go = go refl
tested P false on stop out go = out refl

module _ (s : State) (S : Steady s) where
  -- neither 1 nor 2 is met
  lent_true : lent s.lengths s.handles ≡ true
  lent_true = both_of_lem _ _ (eq-eqb _ 4096 S.lengths_lent) (eq-eqb _ 4096 S.handles_lent)

  -- so the call goes on
  pub checked_on : {o : Outcome} → checked s o ≡ o
  unfolding checked
  checked_on = rw (lent_true, formed_in s.held s.lengths S.form)

  -- an arrival is refused with 7, 8 or 9, or stored
  join_ways : (P : Outcome → Type 0) (f n handle : ℕ) → ((number : ℕ) → 3 ≤ number → P (kept number s))
      → (Joins s f n → P (store_rule s f n handle)) → P (join_rule s f n handle)
  unfolding join_rule
  join_ways P f n handle stop stores = let w = (flow_of s f).queue in
      join_cases s.held.flows f n w.largest w.waiting
      (λ reply. P (unless_refused reply s (store_rule s f n handle))) stores (λ number low _. stop number (omega arith))

  -- a pick is Idle, refused with 10, or serves a flow of smallest tag
  pick_ways : (P : Outcome → Type 0) (o : Outcome) → Taken s o → Ways s pick P → P o
  unfolding take_rule
  pick_ways P o t ways = rw (t.taken, checked_on) (go (something_waits s) refl)
    where
      go : (b : Bool) → something_waits s ≡ b
          → P (cond b (demand (ltb (clock_of s) clock_limit) 10 s (serve_rule s t.flow)) (idle_rule s))
      go false e = ways.rests refl (lead_nobody s.held e)
      go true e = tested P (ltb (clock_of s) clock_limit) _ (kept 10 s)
          (λ c. ways.refuses 10 (record { late = omega arith; ten = λ _. (refl, e, ltb-false _ clock_limit c) }))
          λ c. ways.serves refl t.flow (t.smallest e) (ltb-true _ clock_limit c)

  -- what holds whichever way it goes holds of a call that is no opening
  call_ways : (call : Call) (o : Outcome) → Plain call → Gives s call o → (P : Outcome → Type 0) → Ways s call P → P o
  call_ways (opening shares largest header) o plain gives P ways = absurd plain
  call_ways (arrival f n handle) o plain gives P ways = rw (gives, checked_on) (join_ways P f n handle
      (λ number late. ways.refuses number (record { late = late; ten = λ e. arrival_pick e }))
      (ways.stores f n handle))
  call_ways pick o plain gives P ways = pick_ways P o gives ways

-- what a call has to do with the flows of table X, where flow f waits if it is a pick
pub record Counts (X : Table) (f : ℕ) (s : State) (o : Outcome) : Type 0 where
  -- the clock goes on by what was picked, and does not pass flow f's tag
  pub clock : clock_of s + 720 * charge_in o ≤ clock_of o.state
  pub before : clock_of o.state ≤ max ((view_of s).tag f) (clock_of s)
  -- each flow moves by what was picked of it
  pub moves : (g : ℕ)
      → MovesAt X.cost g (charge_for g o) (clock_of s) (view_of s) (clock_of o.state) (view_of o.state)
  -- and is picked only where it is not behind flow f: by no more than its start is behind flow f's tag
  pub turn : (g : ℕ) → charge_for g o * X.cost g
      ≤ behind ((view_of s).tag f) (X.cost g) (clock_of s) ((view_of s).tag g) ((view_of s).charge g)
  -- a pick that was not refused charges a byte or more, and is not Idle
  pub byte : pick_in o.reply ≤ charge_in o
  pub busy : o.reply ≡ idle → ⊥

-- what a reply has to do with the clocks: both go on by what was picked, and the server clock by Δ where it leapt
pub record Clocks (s : State) (o : Outcome) : Type 0 where
  pub link : o.state.held.link.0 ≡ s.held.link.0 + 720 * charge_in o
  pub clock : clock_of o.state ≡ clock_of s + 720 * charge_in o + s.held.width * value_in 4 o.reply
  pub width : o.state.held.width ≡ s.held.width

-- a leap adds Δ once
leap_clock_lem : (clock width T ticks : ℕ)
    → leap_clock clock width T + ticks ≡ clock + ticks + width * cond (leaps clock width T) 1 0
leap_clock_lem clock width T ticks = go (leaps clock width T)
  where
    go : (b : Bool) → cond b (clock + width) clock + ticks ≡ clock + ticks + width * cond b 1 0
    go true = omega arith
    go false = omega arith

module _ (s : State) (S : Steady s) (call : Call) (o : Outcome) (plain : Plain call) (gives : Gives s call o) where
  -- no call but an opening loses what is steady, or the table
  pub call_keeps : Steady o.state × (table_of o.state ≡ table_of s)
  unfolding idle_rule
  call_keeps = call_ways s S call o plain gives (λ o. Steady o.state × (table_of o.state ≡ table_of s))
      record {
        refuses = λ number _. (S, refl);
        stores = λ f n handle joins. rw (store_put s f n handle)
            (store_steady s f n handle S joins, store_table s f n handle S joins);
        rests = λ _ nobody. (idle_steady s S nobody, idle_table s S);
        serves = λ _ f small below. rw (serve_put s f) (serve_steady s f S small below, serve_table s f S small);
      }

  -- what the call has to do with the flows, where flow f waits if it is a pick
  pub call_counts : (f : ℕ) → f < s.held.flows → (call ≡ pick → 0 < (flow_of s f).queue.waiting)
      → Counts (table_of s) f s o
  unfolding store_rule serve_rule idle_rule put
  call_counts f l waits = call_ways s S call o plain gives (Counts (table_of s) f s)
      record {
        refuses = λ number _. record {
          clock = omega arith;
          before = omega arith;
          moves = same_moves (table_of s).cost (clock_of s) refl;
          turn = λ g. omega arith;
          byte = omega arith;
          busy = λ e. idle_refused (sym e);
        };
        stores = λ i n handle joins. record {
          clock = omega arith;
          before = omega arith;
          moves = store_moves s i n handle S joins;
          turn = λ g. omega arith;
          byte = omega arith;
          busy = λ e. idle_done (sym e);
        };
        rests = λ e nobody. absurd (omega (arith, waits e, nobody f l));
        serves = λ e i small _. record {
          clock = serve_clock_on s i S small;
          before = omega (arith, served_before s i S small f l (waits e));
          moves = served_moves s i S small;
          turn = served_turn s i S small f l (waits e);
          byte = omega (
            arith,
            queue_at_lem i s.lengths (flow_of s i).queue (S.form.each i small.counts).queue 0 small.waits,
          );
          busy = λ e. idle_done (sym e);
        };
      }

  -- no call but an opening is refused with 1 or 2
  call_late : Late o.reply
  unfolding store_rule serve_rule idle_rule
  call_late = call_ways s S call o plain gives (λ o. Late o.reply)
      record {
        refuses = λ number why. omega (arith, why.late);
        stores = λ f n handle joins. omega arith;
        rests = λ _ nobody. omega arith;
        serves = λ _ f small below. omega arith;
      }

  -- a pick is refused with 10 alone, where something waits and the clock is at its limit
  pub call_refused : call ≡ pick → (number flow : ℕ) → o.reply ≡ refused number flow
      → (number ≡ 10) × (something_waits s ≡ true) × (clock_limit ≤ clock_of s)
  unfolding store_rule serve_rule idle_rule
  call_refused p number flow = call_ways s S call o plain gives
      (λ o. o.reply ≡ refused number flow → (number ≡ 10) × (something_waits s ≡ true) × (clock_limit ≤ clock_of s))
      record {
        refuses = λ m why e. let ten = why.ten p in (sym (ap reply_number e) ∙ ten.0, ten.1, ten.2);
        stores = λ f n handle joins e. refused_done (sym e);
        rests = λ _ nobody e. idle_refused e;
        serves = λ _ f small below e. refused_done (sym e);
      }

  -- no picked packet leaves the clock above its tag
  pub call_in_time : value_in 5 o.reply ≤ value_in 3 o.reply
  unfolding store_rule serve_rule idle_rule
  call_in_time = call_ways s S call o plain gives (λ o. value_in 5 o.reply ≤ value_in 3 o.reply)
      record {
        refuses = λ number _. omega arith;
        stores = λ f n handle joins. omega arith;
        rests = λ _ nobody. omega arith;
        serves = λ _ f small _. serve_in_time s f S small;
      }

  -- the clocks go on where the reply is not Idle
  pub call_clocks : (o.reply ≡ idle → ⊥) → Clocks s o
  unfolding store_rule serve_rule idle_rule put
  call_clocks = call_ways s S call o plain gives (λ o. (o.reply ≡ idle → ⊥) → Clocks s o)
      record {
        refuses = λ number _ _. omega arith;
        stores = λ f n handle joins _. omega arith;
        rests = λ _ nobody never. absurd (never refl);
        serves = λ _ f small below _. let T = (flow_of s f).tag.0 in
            record { link = refl; clock = leap_clock_lem (clock_of s) s.held.width T _; width = refl };
      }

  -- a flow with nothing waiting has the tag of its last packet picked, where the reply is not Idle
  pub call_last : (o.reply ≡ idle → ⊥) → (told : ℕ → ℕ) → IdleTags s told
      → IdleTags o.state (λ f. tag_after f (told f) o.reply)
  unfolding store_rule serve_rule idle_rule
  call_last never told before = call_ways s S call o plain gives
      (λ o. (o.reply ≡ idle → ⊥) → IdleTags o.state (λ f. tag_after f (told f) o.reply))
      record {
        refuses = λ number _ _. before;
        stores = λ f n handle joins _. store_idle s f n handle S joins told before;
        rests = λ _ nobody never. absurd (never refl);
        serves = λ _ f small below _. serve_idle s f S small told before;
      }
      never

  -- and Idle sets clock, link time and all tags to 0
  pub call_idle : o.reply ≡ idle → Zeroed o.state
  unfolding store_rule serve_rule idle_rule
  call_idle = call_ways s S call o plain gives (λ o. o.reply ≡ idle → Zeroed o.state)
      record {
        refuses = λ number _ e. idle_refused (sym e);
        stores = λ f n handle joins e. idle_done (sym e);
        rests = λ _ nobody _. idle_zeroed s S;
        serves = λ _ f small below e. idle_done (sym e);
      }

-- no call on a steady state is refused with 1 or 2
pub any_late : (s : State) → Steady s → (call : Call) (o : Outcome) → Gives s call o → Late o.reply
any_late s S (opening shares largest header) o gives = rw gives (opening_late s shares largest header (lent_true s S))
any_late s S (arrival f n handle) o gives = call_late s S (arrival f n handle) o tt gives
any_late s S pick o gives = call_late s S pick o tt gives
