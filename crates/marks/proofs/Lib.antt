pub mod ClassList
pub mod ClassLaws
