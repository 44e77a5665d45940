-- What the contracts of quoted cite.
pub mod Plain
pub mod Raws
pub mod Coded
pub mod Valued
