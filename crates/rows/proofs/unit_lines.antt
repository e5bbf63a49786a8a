mod EarlierLaws
mod OwnRowLaws
