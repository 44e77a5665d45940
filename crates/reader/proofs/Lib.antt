pub mod AnswerLaws
pub mod CallFacts
pub mod Digits
pub mod JoiningLaws
pub mod PageLaws
pub mod ReadingLaws
pub mod TakenLaws
pub mod Unique
