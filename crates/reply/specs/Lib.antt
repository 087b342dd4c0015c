-- `Reply`: the paper's number and values for each answer. `Replies`: these tell the answer. `State`: what a call is
-- given and what it gives back, with any engine's record.
pub mod Reply
pub mod Replies
pub mod State
