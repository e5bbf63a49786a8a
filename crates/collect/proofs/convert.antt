mod ZeroRowLaws
