-- Words of private functions: no public contract names one.
pub mod Nodes
pub mod OpenJson
pub mod Openings
pub mod PieceLines
pub mod PlainStrings
pub mod StandardNames
