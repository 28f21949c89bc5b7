pub mod Changes
pub mod Choices
pub mod Effects
pub mod Stations
pub mod Tickets
