mod HashLaws
