-- What people must believe of the plain engine's library, to be read beside include/backward.h.
-- `Image`: the plain engine's record as 133 words. `Images`: words and record undo each other. `Plain`: what each call
-- answers and what it leaves in all that is lent.
pub mod Image
pub mod Images
pub mod Plain
