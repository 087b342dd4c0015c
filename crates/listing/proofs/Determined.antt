-- The listing is determined: of the same arguments, any two outcomes that the contract allows have the same number of
-- bytes and the same buffer to its end. It is said on the contract itself, so it cannot drift from it.
-- Assumes nothing.
use mathlib.Core.Path.{◌≡◌}
use contract.Lifetimes.{Lfts}
use borrow.Fn.World.{ArgsD, ResD}
use borrow.Fn.Kinds.{ended_of}
use denote.Triple.Clauses.{AtExit}
use Rattle.lines.specs.Puts.{put_determined}
use Rattle.listing.specs.contracts.write_listing as listing
use Rattle.listing.proofs.write_listing.Kinds as listing_kinds
use Rattle.listing.proofs.write_listing.Reads as listing_reads
use Rattle.listing.specs.contracts.write_reading as reading
use Rattle.listing.proofs.write_reading.Kinds as reading_kinds
use Rattle.listing.proofs.write_reading.Reads as reading_reads

pub listing_determined : (κs : Lfts 1) (a : ArgsD listing.signature κs) (r q : ResD listing.signature κs)
    (s t : AtExit (ended_of 1 listing_kinds.ps listing_kinds.r) κs)
    → listing_reads.Post κs a r s → listing_reads.Post κs a q t
    → (r ≡ q) × (s.1.1.0.now ≡ t.1.1.0.now)
listing_determined κs a r q s t p l = put_determined p l

pub reading_determined : (κs : Lfts 1) (a : ArgsD reading.signature κs) (r q : ResD reading.signature κs)
    (s t : AtExit (ended_of 1 reading_kinds.ps reading_kinds.r) κs)
    → reading_reads.Post κs a r s → reading_reads.Post κs a q t
    → (r ≡ q) × (s.1.1.0.now ≡ t.1.1.0.now)
reading_determined κs a r q s t p l = put_determined p l
