mod OffsetLaws
mod ScanLaws
