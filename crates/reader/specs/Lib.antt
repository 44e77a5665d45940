-- What reading promises (Promise), with the numbers of its answer (Answers); the other definitions serve the code.
pub mod Promise
pub mod Answers
pub mod Pages
pub mod Joining
pub mod Tapes
