-- The exported calls are determined: of the same arguments, any two outcomes that a call's contract allows have the
-- same answer and the same numbers in every word and place of all that is lent. Each is said on the contract itself, so
-- it cannot drift from it.
-- Assumes nothing.
use mathlib.Core.Path.{◌≡◌, sym, ap, ◌∙◌}
use mathlib.Core.List.{List, []}
use Prim.Native.Nat.{ℕ}
use contract.Lifetimes.{Lfts}
use borrow.Fn.World.{ArgsD, ResD}
use borrow.Fn.Kinds.{ended_of}
use denote.Triple.Clauses.{AtExit}
use Rattle.gateway.specs.Gateway.{Answered, answered, lending}
use Rattle.gateway.specs.contracts.uplink_opening as opening
use Rattle.gateway.proofs.uplink_opening.Kinds as opening_kinds
use Rattle.gateway.proofs.uplink_opening.Reads as opening_reads
use Rattle.gateway.specs.contracts.uplink_arrival as arrival
use Rattle.gateway.proofs.uplink_arrival.Kinds as arrival_kinds
use Rattle.gateway.proofs.uplink_arrival.Reads as arrival_reads
use Rattle.gateway.specs.contracts.uplink_pick as pick
use Rattle.gateway.proofs.uplink_pick.Kinds as pick_kinds
use Rattle.gateway.proofs.uplink_pick.Reads as pick_reads
use Rattle.gateway.specs.contracts.uplink_depth as depth
use Rattle.gateway.proofs.uplink_depth.Kinds as depth_kinds
use Rattle.gateway.proofs.uplink_depth.Reads as depth_reads

-- what is told has one answer and leaves one block, two memories and one reply
module _ (n m : ℕ) (block block' lengths lengths' handles handles' reply reply' : List ℕ)
    (e : answered n (lending block lengths handles reply) ≡ answered m (lending block' lengths' handles' reply')) where
  one : (n ≡ m) × (block ≡ block') × (lengths ≡ lengths') × (handles ≡ handles') × (reply ≡ reply')
  one = (
    ap (λ (a : Answered). a.answer) e,
    ap (λ (a : Answered). a.left.block) e,
    ap (λ (a : Answered). a.left.lengths) e,
    ap (λ (a : Answered). a.left.handles) e,
    ap (λ (a : Answered). a.left.reply) e,
  )

pub opening_determined : (κs : Lfts 5) (a : ArgsD opening.signature κs) (r q : ResD opening.signature κs)
    (s t : AtExit (ended_of 5 opening_kinds.ps opening_kinds.r) κs)
    → opening_reads.Post κs a r s → opening_reads.Post κs a q t
    → (r ≡ q)
    × (s.1.1.1.0.now ≡ t.1.1.1.0.now)
    × (s.1.1.1.1.0.now ≡ t.1.1.1.1.0.now)
    × (s.1.1.1.1.1.0.now ≡ t.1.1.1.1.1.0.now)
opening_determined κs a r q s t e f =
    let o = one r q _ _ _ _ _ _ [] [] (e ∙ sym f) in (o.0, o.1, o.2, o.3)

pub arrival_determined : (κs : Lfts 3) (a : ArgsD arrival.signature κs) (r q : ResD arrival.signature κs)
    (s t : AtExit (ended_of 3 arrival_kinds.ps arrival_kinds.r) κs)
    → arrival_reads.Post κs a r s → arrival_reads.Post κs a q t
    → (r ≡ q)
    × (s.1.1.1.0.now ≡ t.1.1.1.0.now)
    × (s.1.1.1.1.0.now ≡ t.1.1.1.1.0.now)
    × (s.1.1.1.1.1.0.now ≡ t.1.1.1.1.1.0.now)
arrival_determined κs a r q s t e f =
    let o = one r q _ _ _ _ _ _ [] [] (e ∙ sym f) in (o.0, o.1, o.2, o.3)

pub pick_determined : (κs : Lfts 4) (a : ArgsD pick.signature κs) (r q : ResD pick.signature κs)
    (s t : AtExit (ended_of 4 pick_kinds.ps pick_kinds.r) κs)
    → pick_reads.Post κs a r s → pick_reads.Post κs a q t
    → (r ≡ q)
    × (s.0.now ≡ t.0.now)
    × (s.1.0.now ≡ t.1.0.now)
    × (s.1.1.0.now ≡ t.1.1.0.now)
    × (s.1.1.1.0.now ≡ t.1.1.1.0.now)
pick_determined κs a r q s t e f = one r q _ _ _ _ _ _ _ _ (e ∙ sym f)

pub depth_determined : (κs : Lfts 2) (a : ArgsD depth.signature κs) (r q : ResD depth.signature κs)
    (s t : AtExit (ended_of 2 depth_kinds.ps depth_kinds.r) κs)
    → depth_reads.Post κs a r s → depth_reads.Post κs a q t → (r ≡ q) × (s.1.1.0.now ≡ t.1.1.0.now)
depth_determined κs a r q s t e f = let o = one r q _ _ [] [] [] [] _ _ (e ∙ sym f) in (o.0, o.4)
