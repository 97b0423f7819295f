pub mod Ring
pub mod RingBounds
pub mod Made
