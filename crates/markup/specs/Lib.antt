-- What the contracts of markup cite. Everything here is told in paper's definitions.
pub mod Extent
pub mod Decoding
pub mod Walk
