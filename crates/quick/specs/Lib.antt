-- What the contracts of quick cite.
pub mod Passed
pub mod Letters
pub mod Taken
pub mod Fits
pub mod Stepped
