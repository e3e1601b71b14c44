pub mod JsonItems
pub mod JsonLines
pub mod JsonNames
pub mod JsonValues
pub mod Calls
pub mod Private
