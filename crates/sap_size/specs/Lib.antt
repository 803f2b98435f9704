pub mod Terms
pub mod Flat
pub mod Nested
pub mod Programs
pub mod Trees
pub mod Items
