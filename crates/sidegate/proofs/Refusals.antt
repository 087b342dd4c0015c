-- What a refused call leaves in all that is lent: "A refusal returns the record as given (opening: the blank record)
-- and changes no place of either memory."
-- Assumes nothing.
use mathlib.Core.Path.{◌≡◌, refl, sym}
use mathlib.Core.Bool.{Bool, true, false, cond}
use Prim.Native.Nat.{ℕ, ◌+◌, ◌^◌, ◌<◌}
use lib.Dec.{ltb, eqb}
use lib.ListN.{length, get_or, replicate}
use borrow.Author.Tests.{eqb-true}
use Rattle.below.specs.Listed.{listed}
use Rattle.reply.specs.Reply.{refused}
use Rattle.reply.specs.Replies.{refused_done, idle_refused}
use Rattle.reply.specs.State.{demand, unless_refused}
use Rattle.queues.specs.Laws.{join_cases}
use Rattle.queues.specs.Opening.{field64}
use Rattle.queues.specs.Places.{lent}
use Rattle.uplink.specs.Pick.{clock_limit}
use Rattle.backward.specs.Record.{queue_of, blank}
use Rattle.backward.specs.State.{State, Outcome}
use Rattle.backward.specs.Form.{formed, checked}
use Rattle.backward.specs.Arrival.{store_rule, arrival_rule}
use Rattle.backward.specs.Pick.{lead_of, serve_rule, idle_rule, choose_rule, pick_rule}
use Rattle.gateway.specs.Image.{words_of, field_words}
use Rattle.gateway.specs.Gateway.{Lent}
use Rattle.gateway.specs.Told.{Refused, same_else, same_told}
use Rattle.sidegate.specs.Image.{plain_words, plain_of}
use Rattle.sidegate.specs.Images.{words_of_plain}
use Rattle.sidegate.specs.Plain.{held, plain_arrival, plain_pick}

-- the blank record's words are all 0
pub blank_words : plain_words blank ≡ replicate 133 0
unfolding plain_words words_of field_words field64 listed
blank_words = refl

-- where o is a refusal it has s as it came
abbrev Same : State → Outcome → Type 0
Same s o = (number flow : ℕ) → o.reply ≡ refused number flow → o.state ≡ s

-- the tests, an arrival and a pick
module _ (s : State) where
  same_demand : (test : Bool) (number : ℕ) (on : Outcome) → Same s on → Same s (demand test number s on)
  same_demand true number on k = k
  same_demand false number on k = λ _ _ _. refl

  same_checked : (on : Outcome) → Same s on → Same s (checked s on)
  same_checked on k = same_demand (lent s.lengths s.handles) 1 _
      (same_demand (formed s.held s.lengths) 2 on k)

  same_arrival : (f n handle : ℕ) → Same s (arrival_rule s f n handle)
  unfolding arrival_rule store_rule
  same_arrival f n handle = let q = queue_of s.held f in
      same_checked _
      (join_cases s.held.flows f n q.largest q.waiting
      (λ reply. Same s (unless_refused reply s (store_rule s f n handle)))
      (λ _ _ _ e. refused_done (sym e)) (λ _ _ _ _ _ _. refl))

  choice_same : (waits : Bool)
      → Same s (cond waits (demand (ltb (s.held.clock.0 + s.held.sum.0) clock_limit) 10 s
      (serve_rule s (lead_of s.held).flow)) (idle_rule s))
  unfolding serve_rule idle_rule
  choice_same true = same_demand (ltb (s.held.clock.0 + s.held.sum.0) clock_limit) 10
      (serve_rule s (lead_of s.held).flow) (λ _ _ e. refused_done (sym e))
  choice_same false = λ _ _ e. idle_refused e

  same_pick : Same s (pick_rule s)
  unfolding pick_rule choose_rule
  same_pick = same_checked _ (choice_same (lead_of s.held).waits)

-- a refused arrival or pick changes no word of anything that is lent
module _ (lent : Lent) (small : (k : ℕ) → get_or lent.block k 0 < 2 ^ 64) where
  -- what is read and written back is the block
  block_same : eqb (length lent.block) 133 ≡ true → plain_words (plain_of lent.block) ≡ lent.block
  block_same e = words_of_plain lent.block (eqb-true (length lent.block) 133 e) small

  pub refused_arrival : (flow bytes handle : ℕ) → Refused (plain_arrival flow bytes handle lent)
      → (plain_arrival flow bytes handle lent).left ≡ lent
  unfolding plain_arrival
  refused_arrival flow bytes handle = same_else (eqb (length lent.block) 133) 101 lent _ λ e.
      same_told plain_words plain_of lent _ _ (block_same e) (same_arrival (held lent) flow bytes handle)

  pub refused_pick : Refused (plain_pick lent) → (plain_pick lent).left ≡ lent
  unfolding plain_pick
  refused_pick = same_else (eqb (length lent.block) 133) 101 lent _ λ e.
      same_else (eqb (length lent.reply) 6) 102 lent _ λ _.
      same_told plain_words plain_of lent _ _ (block_same e) (same_pick (held lent))
