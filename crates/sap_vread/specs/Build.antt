pub mod Built
pub mod Firsts
pub mod Narrow
pub mod Noted
pub mod Spelled
pub mod Tables
