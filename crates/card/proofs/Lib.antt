-- `Blocks`: a block written and read part by part. `Ways`: each way through the tests, the reader and the writer.
-- `Determined`: any two outcomes are equal.
mod Blocks
mod Ways
mod Determined
