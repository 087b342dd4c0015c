-- `Noting`: that flow and length of a call that is done fit their fields. `Determined`: any two outcomes that a call's
-- contract allows are one.
pub mod Noting
pub mod Determined
