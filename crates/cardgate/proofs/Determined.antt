-- The two calls are determined: of the same arguments, any two outcomes that a call's contract allows have the same
-- answer and the same bytes or words in all that is lent. Each is said on the contract itself, so it cannot drift from
-- it.
-- Assumes nothing.
use mathlib.Core.Path.{◌≡◌, sym, ◌∙◌}
use contract.Lifetimes.{Lfts}
use borrow.Fn.World.{ArgsD, ResD}
use borrow.Fn.Kinds.{ended_of}
use denote.Triple.Clauses.{AtExit}
use Rattle.card.specs.Card.{written}
use Rattle.cardgate.specs.Calls.{told}
use Rattle.cardgate.specs.contracts.card_write as write
use Rattle.cardgate.proofs.card_write.Kinds as write_kinds
use Rattle.cardgate.proofs.card_write.Reads as write_reads
use Rattle.cardgate.specs.contracts.card_read as read
use Rattle.cardgate.proofs.card_read.Kinds as read_kinds
use Rattle.cardgate.proofs.card_read.Reads as read_reads

pub write_determined : (κs : Lfts 2) (a : ArgsD write.signature κs) (r q : ResD write.signature κs)
    (s t : AtExit (ended_of 2 write_kinds.ps write_kinds.r) κs)
    → write_reads.Post κs a r s → write_reads.Post κs a q t
    → written r s.1.0.now ≡ written q t.1.0.now
write_determined κs a r q s t e f = e ∙ sym f

pub read_determined : (κs : Lfts 2) (a : ArgsD read.signature κs) (r q : ResD read.signature κs)
    (s t : AtExit (ended_of 2 read_kinds.ps read_kinds.r) κs)
    → read_reads.Post κs a r s → read_reads.Post κs a q t
    → told r s.1.0.now ≡ told q t.1.0.now
read_determined κs a r q s t e f = e ∙ sym f
