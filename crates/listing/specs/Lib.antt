-- What the contracts of this crate cite beside paper's listing: `Numbered` for lines of values whose spans stand among numbers, `Split` for the pages of planlist's input.
pub mod Numbered
pub mod Split
