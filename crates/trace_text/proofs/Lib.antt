pub mod Crossing
mod Digits
mod CsvFacts
mod ReaderFacts
mod FirstFields
mod LineFacts
mod FrontFacts
mod EndFacts
mod HeadFacts
mod FieldFacts
mod ReadFacts
mod RowFacts
mod SoundFacts
mod EventRowFacts
mod PutFacts
mod TableFacts
mod HexFacts
mod RankFacts
mod EventFacts
pub mod AskFacts
mod FlowFacts
mod ContentFacts
mod TraceFacts
mod WholeLineFacts
mod PieceFacts
mod ValidFacts
mod MadeFacts
mod RoundFacts
pub mod Worked
