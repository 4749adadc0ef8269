pub mod PlainNumbers
pub mod TransferLemmas
pub mod RunLemmas
pub mod AuditLemmas
