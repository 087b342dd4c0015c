-- `Words`: a tag and its word. `Blocks`: how a block is read and written. `Answers`: what each reply is to the caller.
-- `Calls`: what each way through an exported call gives. `Refusals`: what a refused call leaves. `Determined`: any two
-- outcomes of a call are equal.
mod Words
mod Blocks
mod Calls
pub mod Refusals
pub mod Determined
