pub mod Tests
pub mod Picks
pub mod Gathers
pub mod Crossings
