-- How numbers show a plan. `Numbers` is the interface: what numbers show, and what numbers the reader lays out. `Records` serves this crate's own
-- contracts: a row as the code holds it, and what its stores leave.
pub mod Numbers
pub mod Records
