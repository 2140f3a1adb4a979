pub mod GoesOn
pub mod Shows
pub mod Views
