-- The plain engine beside the first one: document 02 c).
-- `Equal`: the equality, for every list of calls from any opening. `Promises`, `Clocks`: what it then keeps.
-- Behind them `Raised`: a state and an outcome of the plain engine with the sum added. `Steps`, `Same`: each step and
-- each call gives the same on them. `Sound`: what every call keeps. `Runs`: a run of the plain engine in its own words.
-- `Rows`: worked input and limits. `Slips`: an engine that lowers too few tags.
pub mod Raised
pub mod Steps
pub mod Same
pub mod Sound
pub mod Runs
pub mod Equal
pub mod Promises
pub mod Clocks
pub mod Rows
pub mod Slips
