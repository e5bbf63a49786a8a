mod SourceLaws
