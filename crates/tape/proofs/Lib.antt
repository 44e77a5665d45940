-- Laws of tapes: what they say and what does not change, how much room a page takes, and how the exact maker lays one.
pub mod TapeLaws
pub mod CleanLaws
pub mod PayLaws
pub mod RoomLaws
pub mod WalkLaws
pub mod ValueLaws
pub mod SlotLaws
pub mod PageLaws
