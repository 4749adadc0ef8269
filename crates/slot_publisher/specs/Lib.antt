pub mod Window
pub mod Told
pub mod Places
pub mod Examples
pub use Rattle.path_workers.specs.CoreTable
