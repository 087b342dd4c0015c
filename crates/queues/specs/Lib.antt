-- What people must believe of the queue's side, to be read beside document 01.
-- `Queue`: one flow's bookings and ring of places. `Queues`: those of all flows, got and put. `Form`: when they are
-- well formed. `Places`: the memories, joining and leaving. `Opening`: a table as it opens.
-- `Laws`: what callers draw from these. `Openable`: what an opening that is not refused was handed. `Placed`, `Fence`:
-- what the code's own steps need. `Checked`: refusals 1 and 2. `Ready`: what the checks leave.
pub mod Queue
pub mod Queues
pub mod Form
pub mod Places
pub mod Opening
pub mod Laws
pub mod Placed
pub mod Openable
pub mod Fence
pub mod Checked
pub mod Ready
