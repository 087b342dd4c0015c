-- Document 01's proved examples and limits, and the schedulers that it wants rejected.
-- `Script`: lists of calls. `Examples`: the calls of document 01's examples, and states on the way.
-- `Row`: what a row is. `Rows`: P1 to P12. `HeaderRows`: document 02 a)'s header. `TurnRows`: document 02 e)'s turn.
-- `Limits`: each limit and each order of refusals, on both sides.
-- `Altered`: the rules' own outcomes with one thing changed. `StandIns`, `Slips`, `HeaderSlips`, `TurnSlips`: where
-- each wrong scheduler leaves the rules.
pub mod Script
pub mod Examples
pub mod Row
pub mod Rows
pub mod HeaderRows
pub mod TurnRows
pub mod Limits
pub mod Altered
pub mod StandIns
pub mod Slips
pub mod HeaderSlips
pub mod TurnSlips
