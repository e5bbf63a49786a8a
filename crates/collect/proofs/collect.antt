mod CollectLaws
pub mod GatheredLaws
