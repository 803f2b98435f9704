pub mod Variables
pub mod RowsOfRuns
pub mod Finding
pub mod Going
pub mod OtherRuns
