-- Words of private functions: no public contract names one.
pub mod FieldBits
pub mod JsonLines
pub mod Printing
pub mod RefusedHeads
pub mod RefusedNodes
pub mod Steps
pub mod Trees
