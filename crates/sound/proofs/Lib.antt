-- The laws behind the code that judges numbers. SoundLaws is what a caller cites.
pub mod ValueLaws
pub mod ElementLaws
pub mod HeadLaws
pub mod RecordLaws
pub mod SoundLaws
pub mod Causes
