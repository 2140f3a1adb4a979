pub mod Promise
pub mod Served
pub mod Service
pub mod Worked
pub mod WrongServices
