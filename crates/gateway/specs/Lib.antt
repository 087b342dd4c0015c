-- What people must believe of the gateway's library, to be read beside include/uplink.h.
-- `Image`: the record as 132 words. `Images`: words and record undo each other. `Depth`: what waits in a flow.
-- `Gateway`: what each call answers and what it leaves in all that is lent. `Step`: the words that a call writes, and
-- what a call changes in a record. `Told`: what an outcome and a refusal are to the caller. `StandIns`: where wrong
-- libraries leave the rules.
pub mod Image
pub mod Images
pub mod Depth
pub mod Gateway
pub mod Told
pub mod Step
pub mod StandIns
