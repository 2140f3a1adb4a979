pub mod Outside
pub mod Workers
pub mod WorldInside
pub mod Worlds
