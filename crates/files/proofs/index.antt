mod IndexLaws
