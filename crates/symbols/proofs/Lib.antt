pub mod BareLaws
pub mod JoinLaws
pub mod JoinWalkLaws
pub mod TurnLaws
pub mod SoughtLaws
pub mod ExtentLaws
pub mod ChoiceLaws
pub mod LookedLaws
