pub mod Asking
pub mod Hexes
pub mod LoadLemmas
pub mod NameLemmas
pub mod Pieces
pub mod Spellings
