-- What each way through an opening gives, as the rule has it.
-- Assumes nothing.
use Rattle.std.specs.Prelude.{◌≡◌, ℕ, List, length, get_or, replicate, Result, Ok, Err}
use Rattle.std.proofs.Common.{sym, ap, ◌∙◌}
use Rattle.below.specs.Below.{most_below}
use Rattle.reply.specs.Reply.{done_reply}
use Rattle.reply.specs.Replies.{told}
use Rattle.reply.specs.State.{outcome}
use Rattle.reply.specs.declared.Refusal.{Refusal}
use Rattle.queues.specs.Queue.{booked_ticks}
use Rattle.queues.specs.Queues.{width_of}
use Rattle.queues.specs.Opening.{new_queues, lists_reply}
use Rattle.queues.specs.Openable.{Openable, openable}
use Rattle.queues.specs.declared.Queues.{Queues}
use Rattle.uplink.specs.Record.{blank}
use Rattle.uplink.specs.Opening.{new_record, opening_rule}
use Rattle.uplink.specs.declared.Record.{Record}

module _ (shares largest : List ℕ) (header : ℕ) (lengths handles : List ℕ) (reply : Result (Unit {0}) Refusal)
    (e : done_reply reply ≡ lists_reply shares largest header lengths handles) where
  -- refused
  pub opening_refused : (next : Record) (why : Refusal) → next ≡ blank → reply ≡ Err why
      → outcome (done_reply reply) next lengths handles ≡ opening_rule shares largest header lengths handles
  unfolding opening_rule
  opening_refused next why b d = rw (← e, b, d, (told why).says)

  module _ (u : Unit {0}) (d : reply ≡ Ok u) where
    -- done: what was handed in
    pub taken : Openable shares largest header lengths handles
    taken = openable shares largest header lengths handles (sym e ∙ ap done_reply d)

    -- and what is handed back
    pub opening_done : (next : Record) (ls hs : List ℕ)
        → (next ≡ new_record shares largest header) × (ls ≡ replicate 4096 0) × (hs ≡ replicate 4096 0)
        → outcome (done_reply reply) next ls hs ≡ opening_rule shares largest header lengths handles
    unfolding opening_rule
    opening_done next ls hs p = rw (← e, d, p.0, p.1, p.2)

-- the record of a table, of its queues, its width and the blank record
pub tabled : (shares largest : List ℕ) (header width : ℕ) (q : Queues) (start : Record)
    → q ≡ new_queues shares largest → start ≡ blank
    → width ≡ most_below (λ f. booked_ticks header (get_or q.share f 0) (get_or q.largest f 0)) (length shares)
    → record {
      flows = length shares;
      header = header;
      width = width;
      clock = start.clock;
      link = start.link;
      tags = start.tags;
      queues = q;
      turn = start.turn;
    } ≡ new_record shares largest header
unfolding new_record width_of
tabled shares largest header width q start n b w = rw (w, n, b)
