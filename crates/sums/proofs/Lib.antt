-- `Summing`: a turn of the loop over the bytes, and each way through the test.
mod Summing
