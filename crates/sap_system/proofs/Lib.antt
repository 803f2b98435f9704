pub mod Answered
pub mod LinkAnswered
pub mod PartNames
pub mod Worked
pub mod WorkedWires
