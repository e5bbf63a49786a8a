mod ChainWalkLaws
mod WalkLaws
