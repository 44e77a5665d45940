-- One page: its attributes by fields (Found, Flaws), how it is judged in one pass (Fold, Judged), what it says (Content), and what it must keep to be laid out (Fit).
pub mod Found
pub mod Fold
pub mod Content
pub mod Flaws
pub mod Judged
pub mod Fit
