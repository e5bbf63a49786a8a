mod RowLaws
mod StandardLaws
