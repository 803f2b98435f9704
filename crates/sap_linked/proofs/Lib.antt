mod Apart
mod Keeping
pub mod Reading
pub mod Alike
mod Cycles
mod Fed
mod Inputs
pub mod Order
mod Linked
pub mod Own
pub mod Parted
pub mod Entities
mod EachInput
mod SideBySide
pub mod Families
mod PartNames
mod Ends
pub mod Ports
mod Differing
mod Wider
mod Showing
mod Naming
mod Values
mod Feeding
mod Assigning
mod InOrder
mod Rules
pub mod Declared
mod Declaring
pub mod Designs
mod Computed
