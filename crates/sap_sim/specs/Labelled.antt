pub mod Fields
pub mod LabelledRows
pub mod RunOf
pub mod Examples
