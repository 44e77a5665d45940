-- What the code that walks the tape of one page is held to.
pub mod Walking
pub mod Laying
