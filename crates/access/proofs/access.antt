mod AttributeLaws
mod RowLaws
