pub mod Choices
pub mod Parts
pub mod Reading
pub mod Rows
pub mod Table
pub mod Text
pub mod Views
