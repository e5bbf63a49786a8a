mod LayLaws
