-- The log beside the two engines: document 02 d) and c).
-- `Runs`: the log of a run, read off its events. `Plain`: the plain engine's log is the first one's.
pub mod Runs
pub mod Plain
