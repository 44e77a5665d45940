-- Which rows and pairs numbers show (Pairs), what building and asking answer (Answers), and what reading with the index promises (Promise).
pub mod Pairs
pub mod Answers
pub mod Promise
