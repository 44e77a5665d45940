-- What a tape is, how much room a page takes, and how a page is laid.
pub mod Tape
pub mod Rooms
pub mod Making
