pub mod ExportLaws
pub mod LookLaws
