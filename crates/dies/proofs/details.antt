mod InlineStepLaws
mod CollectLaws
mod CollectingLaws
mod SitesPutLaws
mod ExtractLaws
