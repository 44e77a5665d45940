-- The cell of numbers. `Numbered` and `Answers` are the interface: which cell of document 01 a call asks for, and what is answered of it. `Found` serves the
-- code: a cell as ranges and numbers.
pub mod Numbered
pub mod Answers
pub mod Found
