-- Both calls are determined: of the same arguments, any two outcomes that a call's contract allows have the same reply,
-- the same record, the same entry and the same numbers in every place of both memories. Each is said on the contract
-- itself, so it cannot drift from it.
-- Assumes nothing.
use mathlib.Core.Path.{◌≡◌, refl, sym, ap, ◌∙◌}
use mathlib.Core.List.{List, [], ◌∷◌}
use contract.Lifetimes.{Lfts}
use borrow.Fn.World.{ArgsD, ResD}
use borrow.Fn.Kinds.{ended_of}
use denote.Triple.Clauses.{AtExit}
use Rattle.std.specs.Prelude.{Option, Some, None, Result}
use Rattle.std.specs.Option.{option_to_list}
use Rattle.reply.specs.Reply.{done_reply}
use Rattle.reply.specs.Replies.{done_reply_one}
use Rattle.reply.specs.State.{outcome_one}
use Rattle.reply.specs.declared.Refusal.{Refusal}
use Rattle.uplink.specs.declared.Record.{Record}
use Rattle.uplink.specs.PickReply.{pick_reply, pick_reply_one}
use Rattle.entries.specs.declared.Entry.{Entry}
use Rattle.cardlog.specs.declared.Logged.{Logged}
use Rattle.cardlog.specs.Noted.{Noting}
use Rattle.cardlog.specs.contracts.arrival as arrival
use Rattle.cardlog.proofs.arrival.Kinds as arrival_kinds
use Rattle.cardlog.proofs.arrival.Reads as arrival_reads
use Rattle.cardlog.specs.contracts.pick as pick
use Rattle.cardlog.proofs.pick.Kinds as pick_kinds
use Rattle.cardlog.proofs.pick.Reads as pick_reads

-- the list of an entry or none tells it
abbrev entry_of : List Entry → Option Entry
entry_of [] = None
entry_of (e ∷ entries) = Some e

entry_read : (a : Option Entry) → entry_of (option_to_list a) ≡ a
entry_read (Some e) = refl
entry_read None = refl

entry_one : (a b : Option Entry) → option_to_list a ≡ option_to_list b → a ≡ b
entry_one a b e = sym (entry_read a) ∙ ap entry_of e ∙ entry_read b

-- what a call gives, with this entry
abbrev logged_with : {T : Type 0} → Option Entry → Record → Result T Refusal → Logged T
logged_with entry next reply = record { called = record { next = next; reply = reply }; entry = entry }

pub arrival_determined : (κs : Lfts 2) (a : ArgsD arrival.signature κs) (r q : ResD arrival.signature κs)
    (s t : AtExit (ended_of 2 arrival_kinds.ps arrival_kinds.r) κs)
    → arrival_reads.Post κs a r s → arrival_reads.Post κs a q t
    → (r ≡ q)
    × (s.1.1.1.1.0.now ≡ t.1.1.1.1.0.now)
    × (s.1.1.1.1.1.0.now ≡ t.1.1.1.1.1.0.now)
arrival_determined κs a r q s t e f =
    let same = outcome_one done_reply (logged_with r.entry)
    done_reply_one r.called.reply q.called.reply r.called.next q.called.next _ _ _ _ (ap (λ (x : Noting). x.outcome) (e ∙ sym f)) in
    let note = entry_one r.entry q.entry (ap (λ (x : Noting). x.entries) (e ∙ sym f)) in
    (same.0 ∙ ap (λ entry. logged_with entry q.called.next q.called.reply) note, same.1, same.2)

pub pick_determined : (κs : Lfts 2) (a : ArgsD pick.signature κs) (r q : ResD pick.signature κs)
    (s t : AtExit (ended_of 2 pick_kinds.ps pick_kinds.r) κs)
    → pick_reads.Post κs a r s → pick_reads.Post κs a q t
    → (r ≡ q) × (s.1.0.now ≡ t.1.0.now) × (s.1.1.0.now ≡ t.1.1.0.now)
pick_determined κs a r q s t e f =
    let same = outcome_one pick_reply (logged_with r.entry)
    pick_reply_one r.called.reply q.called.reply r.called.next q.called.next _ _ _ _ (ap (λ (x : Noting). x.outcome) (e ∙ sym f)) in
    let note = entry_one r.entry q.entry (ap (λ (x : Noting). x.entries) (e ∙ sym f)) in
    (same.0 ∙ ap (λ entry. logged_with entry q.called.next q.called.reply) note, same.1, same.2)
