-- The exported calls are determined: of the same arguments, any two outcomes that a call's contract allows have the
-- same answer and the same numbers in every word and place of all that is lent. Each is said on the contract itself, so
-- it cannot drift from it.
-- Assumes nothing.
use mathlib.Core.Path.{◌≡◌, sym, ◌∙◌}
use mathlib.Core.List.{[]}
use contract.Lifetimes.{Lfts}
use borrow.Fn.World.{ArgsD, ResD}
use borrow.Fn.Kinds.{ended_of}
use denote.Triple.Clauses.{AtExit}
use Rattle.gateway.specs.Gateway.{answered, lending}
use Rattle.sidegate.specs.contracts.backward_opening as opening
use Rattle.sidegate.proofs.backward_opening.Kinds as opening_kinds
use Rattle.sidegate.proofs.backward_opening.Reads as opening_reads
use Rattle.sidegate.specs.contracts.backward_arrival as arrival
use Rattle.sidegate.proofs.backward_arrival.Kinds as arrival_kinds
use Rattle.sidegate.proofs.backward_arrival.Reads as arrival_reads
use Rattle.sidegate.specs.contracts.backward_pick as pick
use Rattle.sidegate.proofs.backward_pick.Kinds as pick_kinds
use Rattle.sidegate.proofs.backward_pick.Reads as pick_reads

pub opening_determined : (κs : Lfts 5) (a : ArgsD opening.signature κs) (r q : ResD opening.signature κs)
    (s t : AtExit (ended_of 5 opening_kinds.ps opening_kinds.r) κs)
    → opening_reads.Post κs a r s → opening_reads.Post κs a q t
    → answered r (lending s.1.1.1.0.now s.1.1.1.1.0.now s.1.1.1.1.1.0.now [])
    ≡ answered q (lending t.1.1.1.0.now t.1.1.1.1.0.now t.1.1.1.1.1.0.now [])
opening_determined κs a r q s t e f = e ∙ sym f

pub arrival_determined : (κs : Lfts 3) (a : ArgsD arrival.signature κs) (r q : ResD arrival.signature κs)
    (s t : AtExit (ended_of 3 arrival_kinds.ps arrival_kinds.r) κs)
    → arrival_reads.Post κs a r s → arrival_reads.Post κs a q t
    → answered r (lending s.1.1.1.0.now s.1.1.1.1.0.now s.1.1.1.1.1.0.now [])
    ≡ answered q (lending t.1.1.1.0.now t.1.1.1.1.0.now t.1.1.1.1.1.0.now [])
arrival_determined κs a r q s t e f = e ∙ sym f

pub pick_determined : (κs : Lfts 4) (a : ArgsD pick.signature κs) (r q : ResD pick.signature κs)
    (s t : AtExit (ended_of 4 pick_kinds.ps pick_kinds.r) κs)
    → pick_reads.Post κs a r s → pick_reads.Post κs a q t
    → answered r (lending s.0.now s.1.0.now s.1.1.0.now s.1.1.1.0.now)
    ≡ answered q (lending t.0.now t.1.0.now t.1.1.0.now t.1.1.1.0.now)
pick_determined κs a r q s t e f = e ∙ sym f
