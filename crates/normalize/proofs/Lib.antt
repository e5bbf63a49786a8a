pub mod CompactLaws
