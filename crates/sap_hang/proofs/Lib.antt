pub mod Sets
pub mod Numbers
pub mod Adds
pub mod Simples
pub mod Bodies
pub mod Groups
pub mod Tables
