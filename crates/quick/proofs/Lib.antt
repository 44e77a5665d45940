-- Laws and proofs of quick.
pub mod PassedLaws
pub mod LetterLaws
pub mod TagLaws
pub mod Scanned
pub mod Allowed
pub mod SlotLaws
pub mod FitLaws
pub mod ElemLaws
pub mod StepLaws
pub mod MadeLaws
