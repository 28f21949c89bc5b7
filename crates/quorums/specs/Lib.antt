pub mod Families
pub mod Sets
pub mod Grids
pub mod Members
pub mod Majorities
pub mod Counting
pub mod Tables
