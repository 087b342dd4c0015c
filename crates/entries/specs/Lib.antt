-- `Entry`: an entry as sixteen bytes. `Legal`: which entries are within the rules. `Laws`: writing and reading undo
-- each other, and so do kinds and their numbers.
pub mod Entry
pub mod Legal
pub mod Laws
