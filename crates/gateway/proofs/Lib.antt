-- `Blocks`: how a block is read and written. `Stepping`: the words that a step writes make the next block. `Following`:
-- what a call leaves of a state. `Calls`: what each way through a call gives. `Refusals`: what a refused call leaves.
-- `Determined`: any two outcomes of a call are equal.
pub mod Blocks
pub mod Stepping
pub mod Following
pub mod Calls
pub mod Refusals
pub mod Determined
