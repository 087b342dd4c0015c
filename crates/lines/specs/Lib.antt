-- What people must believe of the lines of a script, to be read beside document 01, "The script program". `Text`:
-- where lines and fields end. `Ends`: what callers use of it. `Puts`: texts put one behind the other. `Number`: numbers
-- read and written. `Line`: what a line says. `Output`: the line that a reply is written as. `Rules`: what a script
-- asks of an engine, and what the two engines give. `Step`: the state of a script and what a line makes of it. `Whole`:
-- what the program writes for its input, and what a run of some lines makes. `Places`: the lines of an input at their
-- places. `Running`: laws of a run. `Long`: a long line is bad. `Example`: the document's whole example, computed.
-- `StandIns`: wrong readings and a wrong run.
pub mod Text
pub mod Ends
pub mod Puts
pub mod Number
pub mod Line
pub mod Output
pub mod Rules
pub mod Step
pub mod Whole
pub mod Places
pub mod Running
pub mod Long
pub mod Example
pub mod StandIns
