-- What people must believe of the scheduler, to be read beside document 01.
-- `Flow`: one flow, its tag and its queue. `Record`: the record's words, a flow got and a flow put. `PickReply`: the
-- paper's values for a pick's answer. `State`: what a call is given and what it gives back.
-- `Form`: when a record is well formed. `Opening`, `Arrival`, `Pick`: the rules of the three calls. `Calls`: the three
-- as one. `Formed`: what callers draw from the form. `Ready`: what the checks leave where a call goes on.
-- For theorems over several calls: `Leading`, who leads; `Put`, one flow put anew by an arrival or a pick; `Restarts`,
-- the record after an Idle and after an opening.
pub mod Flow
pub mod Record
pub mod PickReply
pub mod State
pub mod Form
pub mod Formed
pub mod Opening
pub mod Arrival
pub mod Pick
pub mod Ready
pub mod Calls
pub mod Leading
pub mod Put
pub mod Restarts
