mod LookInLaws
