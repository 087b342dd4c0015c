-- `Sums`: the two sums of a block. `Laws`: one byte more, and that they fit.
pub mod Sums
pub mod Laws
