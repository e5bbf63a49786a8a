mod JoinedLaws
