-- What the contracts of functions that write into a lent room cite: `Laid` for the room that they leave, `Written` for a room and the place behind what
-- was written, `Numbered` for spans that stand among numbers, `Paired` for numbers two by two.
pub mod Laid
pub mod Written
pub mod Numbered
pub mod Paired
