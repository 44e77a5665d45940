-- A refusal in numbers (Refused), what listing promises (Promise), what writing pages afresh promises (Fresh), what finding a package number promises (Find), what a printed cell promises (Cells), and
-- what is printed for an input of planlist, planfresh, planfind and plancell (Printed).
pub mod Refused
pub mod Promise
pub mod Fresh
pub mod Find
pub mod Cells
pub mod Printed
