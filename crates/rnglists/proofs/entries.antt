mod ReadLaws
