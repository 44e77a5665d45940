-- What is asked of any collector (Keeping), the numbers of its answers (Answers), what adding a page promises (Promise), and which collector of document 01 it
-- shows (Shows).
pub mod Keeping
pub mod Answers
pub mod Promise
pub mod Shows
