-- What people must believe of the plain engine, to be read beside document 02 c) and document 01.
-- `Record`: the record's words. `State`: what a call is given and what it gives back. `Raised`: the record with the sum
-- added. `Form`: when a record is well formed. `Opening`, `Arrival`, `Pick`: the rules of the three calls. `Calls`: the
-- three as one. `Formed`: what callers draw from the form. `Ready`: what the checks of a call leave.
pub mod Record
pub mod State
pub mod Raised
pub mod Form
pub mod Opening
pub mod Arrival
pub mod Pick
pub mod Calls
pub mod Formed
pub mod Ready
