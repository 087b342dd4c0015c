-- `Content`: a block's content as 157 words. `Fitting`: what it is for words to fit, in bounds. `Calls`: what the two
-- calls answer and leave. `Contents`: words and content undo each other. `RoundTrips`: and so do the calls. `Rows`: the
-- calls at the limits of what may be lent.
pub mod Content
pub mod Fitting
pub mod Calls
pub mod Contents
pub mod RoundTrips
pub mod Rows
