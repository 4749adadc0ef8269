pub use Rattle.text_output.specs.Content
pub use Rattle.text_output.specs.Transfer
pub use Rattle.text_output.specs.Output
pub mod Text
pub mod Steps
pub mod Laws
