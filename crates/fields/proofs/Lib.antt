-- The laws that the proofs of the functions cite; a caller of the look-ups cites TableLaws, ColumnLaws, RuleLaws and NumberLaws.
pub mod SetLaws
pub mod DateLaws
pub mod NumberLaws
pub mod DoseLaws
pub mod RuleLaws
pub mod LookupLaws
pub mod NameLaws
pub mod ColumnLaws
pub mod FoundLaws
pub mod TableLaws
pub mod Parts
