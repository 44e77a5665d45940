-- The laws behind the listing's code: pieces written one behind the other, numbers in digits, the lines of fields, of the head and of rows, and the splits of the
-- input.
pub mod Pieces
pub mod Digits
pub mod Fielded
pub mod Flat
pub mod Rowed
pub mod Whole
pub mod Splits
