mod FoundLaws
