-- The laws about a cell of numbers. What each file is for stands in its first line.
pub mod Values
pub mod Told
pub mod Placed
pub mod Cuts
pub mod Shows
pub mod Promises
pub mod Plans
pub mod Worked
