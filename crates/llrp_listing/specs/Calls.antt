-- What public contracts say that no promise of README rests on.
pub mod Copying
pub mod EpcLines
pub mod Fault
pub mod FirstRefusal
pub mod Hexadecimal
pub mod ItemPrinter
pub mod ListingLaws
pub mod MemoryListing
pub mod PrintingLaws
pub mod Show
pub mod Splits
