pub mod Hints
pub mod Items
pub mod Listers
pub mod Lists
pub mod Said
pub mod Told
