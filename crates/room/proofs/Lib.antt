-- The laws of laying, comparing and copying, of parts, of runs of bytes, of lists that begin alike, and of numbers two by two. What each file is for stands in its first line.
pub mod LaidLaws
pub mod Parts
pub mod Pieces
pub mod Copied
pub mod Compared
pub mod Runs
pub mod Alike
pub mod PairLaws
