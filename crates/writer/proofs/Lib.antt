-- The laws behind the writer's code: the answer's numbers, the cut, the sizes of rows, the pages, and document 01's answer; that the promise has one result
-- (Unique), and that writing what was read is writing the plan (WrittenBack).
pub mod AnswerLaws
pub mod CutLaws
pub mod MeasureLaws
pub mod PageLaws
pub mod Stretches
pub mod Unique
pub mod WritingLaws
pub mod Answered
pub mod WrittenBack
pub mod Bodied
pub mod Paged
pub mod Placed
pub mod Spelled
