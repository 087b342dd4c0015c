-- Fair among equals: document 02 e).
-- `Fair`: what it is that the flow picked last loses every tie, for any engine, and what of an engine is enough for it.
-- `Engines`: both engines have it, in every run. `Lowest`: with the lowest number winning it is false, and the crew of
-- flow 9 in worked runs. Behind them `Ways`: the turn through the ways that a call may go.
pub mod Fair
pub mod Ways
pub mod Engines
pub mod Lowest
