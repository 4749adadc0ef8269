pub mod Examples
pub mod Showing
pub mod NumberedLines
pub mod Fronts
pub mod Batches
pub mod Keeping
