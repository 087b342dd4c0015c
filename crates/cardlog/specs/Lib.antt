-- The log of a list of calls, document 02 d).
-- `Logged`: the entry of a call. `Noted`: a call's outcome with its entry. `Log`: the blocks of a list of entries, and
-- the logs of a script with several openings. `Feed`: a log built entry by entry.
-- Theorems: `Right`: every entry that a call logs is within the rules (`Ways`: the ways that a call may go). `Blocks`:
-- so is every block of a log, and the writer takes it. `Fed`: the log built entry by entry is the log. `Stretches`: the
-- logs of a script hold every entry. `Rows`: worked input. `Slips`: wrong logs.
pub mod Logged
pub mod Noted
pub mod Log
pub mod Feed
pub mod Ways
pub mod Right
pub mod Blocks
pub mod Fed
pub mod Stretches
pub mod Rows
pub mod Slips
