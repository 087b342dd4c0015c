-- What people must believe of the tag's side, to be read beside document 01.
-- `Ticks`: the leap and the tag of a front packet. `Form`: when tags are well formed. `Choice`: which flow is picked.
-- `Laws`, `Chosen`: what callers draw from these. `Searched`: the search on its way.
pub mod Ticks
pub mod Form
pub mod Choice
pub mod Laws
pub mod Searched
pub mod Chosen
