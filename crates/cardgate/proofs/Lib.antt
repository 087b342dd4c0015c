-- `Tests`: how the words of a content are read, where they fit. `Words`: how they are written. `Refusals`: what a refused
-- call leaves. `Determined`: any two outcomes of a call are equal.
mod Tests
mod Words
pub mod Refusals
pub mod Determined
