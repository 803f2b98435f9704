pub mod Dumped
pub mod Ahead
pub mod ToCome
pub mod Ready
