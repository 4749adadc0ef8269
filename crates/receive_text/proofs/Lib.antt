mod Closing
mod Opening
mod Filled
mod Recording
mod Texts
