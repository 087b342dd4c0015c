-- `Listing`: the lines of a block. `Rows`: worked lines.
pub mod Listing
pub mod Rows
