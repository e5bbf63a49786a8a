pub mod CountLaws
pub mod CheckLaws
pub mod WorkLaws
pub mod LayoutLaws
