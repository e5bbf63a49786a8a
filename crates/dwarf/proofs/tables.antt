mod IndexingLaws
