-- The laws that the proofs of the functions cite (KeepLaws, MaskLaws, OrderLaws), the pages of document 01's collector by their numbers (ByNumber), that a
-- collector shows document 01's (Shown), and that no second answer is left (Once).
pub mod ByNumber
pub mod KeepLaws
pub mod MaskLaws
pub mod Once
pub mod OrderLaws
pub mod Shown
