-- Laws of the values and the elements on a tape.
pub mod SlotLaws
pub mod WalkLaws
pub mod ContentLaws
pub mod HeadLaws
pub mod RowLaws
