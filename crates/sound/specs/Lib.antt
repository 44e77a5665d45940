-- What it is for numbers to be sound. `Sound` is the interface; `Judged` has the words of the inner functions.
pub mod Sound
pub mod Judged
