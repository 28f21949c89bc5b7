pub mod Settings
pub mod Views
