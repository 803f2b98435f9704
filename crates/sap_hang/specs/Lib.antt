pub mod Hang
pub mod Rows
pub mod Sets
pub mod Walks
