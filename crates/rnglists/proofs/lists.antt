mod MeaningLaws
mod NextLaws
