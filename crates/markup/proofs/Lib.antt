-- Laws and proofs of markup.
pub mod TableLists
pub mod Control
pub mod TableLaws
pub mod Slices
pub mod Turns
pub mod ExtentLaws
pub mod Numerals
pub mod Decodes
pub mod Spells
pub mod WalkLaws
pub mod Walked
pub mod RawRoom
