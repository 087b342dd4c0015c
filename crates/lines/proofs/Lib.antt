-- `Seeking`: where the first mark stands. `Digits`: a number read from digits and written in them.
-- `Parting`: the fields of a line. `Letters`: what a line says by its first field.
-- `Spacing`: fields put one behind the other.
-- `Stepping`: what each kind of line makes of a script. `Onward`: the lines of an input one after the other.
-- `Playing`: the runs of a whole script.
-- `Determined`: a step and a run have one outcome.
pub mod Seeking
pub mod Digits
pub mod Parting
pub mod Letters
pub mod Spacing
pub mod Stepping
pub mod Onward
pub mod Playing
pub mod Determined
