pub mod DeclareFrames
pub mod DeclareLaws
pub mod OwnDeclarationLaws
pub mod JoinLaws
pub mod AimLaws
pub mod ResolveLaws
pub mod ReferencedLaws
