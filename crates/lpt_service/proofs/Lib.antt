pub mod PromiseLemmas
pub mod SeenLemmas
pub mod ServedEvents
pub mod ServedLemmas
pub mod WorkedRows
pub mod WrongLemmas
