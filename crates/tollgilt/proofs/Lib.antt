-- What is asked of fresh pages, carried over to the code: of pages written afresh (Demands), and of an app's own plan (WriteDemands); what is asked of finding a package
-- number (FindDemands) and of a printed cell (CellDemands); that a refusal changes nothing (Unchanged); that pages collected one after another are written as those
-- handed in at once (Collected); that what is promised leaves no second result (Unique); and the laws behind the listing of a call, its fresh pages, finding a number in
-- it, its cells, and what is printed for an input.
pub mod Demands
pub mod WriteDemands
pub mod FindDemands
pub mod CellDemands
pub mod Unchanged
pub mod Collected
pub mod Unique
pub mod ListLaws
pub mod FreshLaws
pub mod FreshWritten
pub mod InputLaws
pub mod JoinLaws
pub mod FreshInput
pub mod FindLaws
pub mod CellLaws
pub mod FindInput
pub mod CellInput
