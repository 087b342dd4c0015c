-- Of the same arguments any two outcomes that a call's contract allows are equal: reply, record, and every place of
-- both memories. It is said of each call's own contract.
-- Assumes nothing.
use mathlib.Core.Path.{◌≡◌, sym, ◌∙◌}
use contract.Lifetimes.{Lfts}
use borrow.Fn.World.{ArgsD, ResD}
use borrow.Fn.Kinds.{ended_of}
use denote.Triple.Clauses.{AtExit}
use Rattle.reply.specs.Reply.{done_reply}
use Rattle.reply.specs.Replies.{done_reply_one}
use Rattle.reply.specs.State.{outcome_one}
use Rattle.uplink.specs.PickReply.{pick_reply, pick_reply_one}
use Rattle.backward.specs.contracts.Record.opening as opening
use Rattle.backward.proofs.Record.opening.Kinds as opening_kinds
use Rattle.backward.proofs.Record.opening.Reads as opening_reads
use Rattle.backward.specs.contracts.Record.arrival as arrival
use Rattle.backward.proofs.Record.arrival.Kinds as arrival_kinds
use Rattle.backward.proofs.Record.arrival.Reads as arrival_reads
use Rattle.backward.specs.contracts.Record.pick as pick
use Rattle.backward.proofs.Record.pick.Kinds as pick_kinds
use Rattle.backward.proofs.Record.pick.Reads as pick_reads

module _ (κs : Lfts 2) where
  module _ (a : ArgsD pick.signature κs) (r q : ResD pick.signature κs)
      (s t : AtExit (ended_of 2 pick_kinds.ps pick_kinds.r) κs) where
    pub pick_determined : pick_reads.Post κs a r s → pick_reads.Post κs a q t
        → (r ≡ q) × (s.1.0.now ≡ t.1.0.now) × (s.1.1.0.now ≡ t.1.1.0.now)
    pick_determined e f =
        outcome_one pick_reply (λ next reply. record { next = next; reply = reply }) pick_reply_one r.reply q.reply
        r.next q.next _ _ _ _ (e ∙ sym f)

  module _ (a : ArgsD arrival.signature κs) (r q : ResD arrival.signature κs)
      (s t : AtExit (ended_of 2 arrival_kinds.ps arrival_kinds.r) κs) where
    pub arrival_determined : arrival_reads.Post κs a r s → arrival_reads.Post κs a q t
        → (r ≡ q) × (s.1.1.1.1.0.now ≡ t.1.1.1.1.0.now)
        × (s.1.1.1.1.1.0.now ≡ t.1.1.1.1.1.0.now)
    arrival_determined e f =
        outcome_one done_reply (λ next reply. record { next = next; reply = reply }) done_reply_one
        r.reply q.reply r.next q.next _ _ _ _ (e ∙ sym f)

pub opening_determined : (κs : Lfts 4) (a : ArgsD opening.signature κs) (r q : ResD opening.signature κs)
    (s t : AtExit (ended_of 4 opening_kinds.ps opening_kinds.r) κs)
    → opening_reads.Post κs a r s → opening_reads.Post κs a q t
    → (r ≡ q) × (s.1.1.1.0.now ≡ t.1.1.1.0.now) × (s.1.1.1.1.0.now ≡ t.1.1.1.1.0.now)
opening_determined κs a r q s t e f =
    outcome_one done_reply (λ next reply. record { next = next; reply = reply }) done_reply_one
    r.reply q.reply r.next q.next _ _ _ _ (e ∙ sym f)
