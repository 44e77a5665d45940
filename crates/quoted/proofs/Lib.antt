-- The laws of one value between quotes. What each file is for stands in its first line.
pub mod PlainLaws
pub mod Pieces
pub mod RawLaws
pub mod CodedLaws
pub mod ValueLaws
