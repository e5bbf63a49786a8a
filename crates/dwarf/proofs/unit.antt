mod UnitContextLaws
mod UnitStepLaws
