-- The laws about a plan as numbers. What each file is for stands in its first line.
pub mod Records
pub mod Spans
pub mod Numbered
pub mod Shown
pub mod Sameness
pub mod Parts
pub mod Doses
pub mod Worked
