mod GatherLaws
