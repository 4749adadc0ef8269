mod Changes
mod Entering
pub mod Held
mod Recording
mod Marking
mod Beginning
mod Allocating
mod Refusing
mod Reading
mod Hearing
mod Making
mod Taking
mod Sufficing
mod Carrying
