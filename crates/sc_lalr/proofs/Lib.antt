pub mod Deciding
pub mod Leading
pub mod Looking
pub mod Passing
pub mod Placing
pub mod Reducing
pub mod Spreading
pub mod Tabling
