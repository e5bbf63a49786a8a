pub mod InsertLaws
pub mod RangeTableLaws
pub mod ReorderLaws
pub mod GatherLaws
pub mod InlinedLaws
pub mod NumberLaws
