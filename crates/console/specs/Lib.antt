-- `Counts`: how many bytes of a buffer were read.
pub mod Counts
