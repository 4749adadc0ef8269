pub mod Adding
pub mod Telling
pub mod Allowing
pub mod Happening
