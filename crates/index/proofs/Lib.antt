-- The laws behind the index's code, what is asked of the index (Demands), and that no second answer meets a promise (Unique).
pub mod PairLaws
pub mod FillLaws
pub mod AskLaws
pub mod ReadLaws
pub mod Demands
pub mod Unique
