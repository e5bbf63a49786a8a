pub mod Cases
pub mod EntryLaws
pub mod RangeListLaws
pub mod Conforms
pub mod DieRangeLaws
pub mod RoomLaws
