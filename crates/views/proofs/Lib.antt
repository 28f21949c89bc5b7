pub mod Known
pub mod Laws
pub mod Strikes
pub mod Tops
pub mod Judgings
