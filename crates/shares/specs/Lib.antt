-- Demand 3, the shares. An auditor reads `Runs` (what a run is), `Shares` (what is proved of every run; of demand 3 and
-- of the clock it has the words, and proofs/Shares the theorems), `Groups` (of two flows, and of a front packet: document
-- 02 b) and `Bites`.
-- `Rule`: the same for document 01's own pick (demand 3 and the clock in proofs/Rule). `Bites`: worked runs, the 3 that cannot be 2, the charges that cannot be
-- own bytes, a stand-in that breaks it. `GroupBites`: the same for `Groups`, and that both flows have to wait.
-- `Worked`: how a worked run is computed.
-- The argument, from numbers to runs. `Sum`: sums over the flows. `Own`: one flow's part of the backlog.
-- `Keep`: the backlog and the tag bounds, kept by front, leap, serve and reset. `Start`: where a flow stands in its own
-- time. `Bridge`: from the record to these. `Put`: one flow put anew. `Store`, `Serve`, `Idle`, `Opened`: an arrival,
-- a pick, an Idle, an opening. `Calls`: one call. `Stretches`: a stretch of calls.
pub mod Runs
pub mod Shares
pub mod Groups
pub mod Rule
pub mod Worked
pub mod Bites
pub mod GroupBites
pub mod Sum
pub mod Own
pub mod Keep
pub mod Start
pub mod Bridge
pub mod Put
pub mod Store
pub mod Serve
pub mod Idle
pub mod Opened
pub mod Calls
pub mod Stretches
