-- `Lining`: a line put part by part, and the lines of entries one behind the other. `Determined`: the listing has one
-- outcome.
pub mod Lining
pub mod Determined
