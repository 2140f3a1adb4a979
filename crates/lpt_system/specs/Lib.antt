pub mod SystemInside
pub mod SystemSound
pub mod Outside
pub mod TicketsInside
