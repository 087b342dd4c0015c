-- `Block`: a block as 512 bytes, and which contents are within the rules. `Card`: reader and writer. `Laws`: what is
-- where in a block's bytes, and the list that a closure makes. `RoundTrips`: writer and reader undo each other. `Rows`:
-- the limits, computed. `Slips`: readers and writers that are ruled out.
pub mod Block
pub mod Card
pub mod Laws
pub mod RoundTrips
pub mod Rows
pub mod Slips
