pub use Rattle.text_output.proofs.OutputLemmas
pub mod BatchTexts
pub mod RoundTexts
pub mod FlowLemmas
