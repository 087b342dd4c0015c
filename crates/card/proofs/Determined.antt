-- Writer and reader are determined: of the same arguments, any two outcomes that the contract allows have the same
-- answer, content and bytes. Each is said on the contract itself, so it cannot drift from it.
-- Assumes nothing.
use mathlib.Core.Path.{◌≡◌, sym, ap, ◌∙◌}
use contract.Lifetimes.{Lfts}
use borrow.Fn.World.{ArgsD, ResD}
use borrow.Fn.Kinds.{ended_of}
use denote.Triple.Clauses.{AtExit}
use Rattle.card.specs.Card.{Written, answer_one}
use Rattle.card.specs.contracts.writer.write_block as writing
use Rattle.card.proofs.writer.write_block.Kinds as writing_kinds
use Rattle.card.proofs.writer.write_block.Reads as writing_reads
use Rattle.card.specs.contracts.reader.read_block as reading
use Rattle.card.proofs.reader.read_block.Kinds as reading_kinds
use Rattle.card.proofs.reader.read_block.Reads as reading_reads

pub write_determined : (κs : Lfts 1) (a : ArgsD writing.signature κs) (r q : ResD writing.signature κs)
    (s t : AtExit (ended_of 1 writing_kinds.ps writing_kinds.r) κs)
    → writing_reads.Post κs a r s → writing_reads.Post κs a q t
    → (r ≡ q) × (s.1.0.now ≡ t.1.0.now)
write_determined κs a r q s t e f =
    let same = e ∙ sym f in
    (answer_one r q (ap (λ (w : Written). w.answer) same), ap (λ (w : Written). w.bytes) same)

pub read_determined : (κs : Lfts 1) (a : ArgsD reading.signature κs) (r q : ResD reading.signature κs)
    (s t : AtExit (ended_of 1 reading_kinds.ps reading_kinds.r) κs)
    → reading_reads.Post κs a r s → reading_reads.Post κs a q t → r ≡ q
read_determined κs a r q s t e f = e ∙ sym f
