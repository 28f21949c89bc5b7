pub mod ByteRows
pub mod TagOrders
