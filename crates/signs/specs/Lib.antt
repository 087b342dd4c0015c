-- What people must believe of the tag's side of the plain engine, to be read beside document 02 c).
-- `Tags`: tags with a sign. `Bounds`: how far they reach. `Raise`: what adding the sum of the leaps does to each step.
-- `Machine`: signed numbers as the code's steps leave them.
pub mod Tags
pub mod Bounds
pub mod Raise
pub mod Machine
