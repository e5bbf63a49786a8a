pub mod RangeTable
pub mod Unmoved
pub mod Passing
