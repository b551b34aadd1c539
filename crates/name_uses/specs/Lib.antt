pub mod NamesUsed
pub mod Parts
pub mod RangeParts
pub mod Rolls
pub mod Targets
pub mod Viewed
