-- `Rows`, `Limits`: that each row of the two lists holds, by computation.
pub mod Rows
pub mod Limits
