-- `Shares`: that no picked packet leaves the clock above its tag, and demand 3, for every run from an accepted opening.
-- `Rule`: the same for document 01's own pick. `Bites`: that demand 3 speaks of the worked runs.
pub mod Shares
pub mod Rule
pub mod Bites
