-- `Checking`: the form in the order of the test. `Opens`, `Arriving`, `Picking`: what each way through a call gives.
-- `Determined`: any two outcomes of a call are equal.
mod Checking
mod Opens
mod Arriving
mod Picking
mod Determined
