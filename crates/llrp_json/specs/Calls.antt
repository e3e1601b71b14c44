-- What public contracts say that no promise of README rests on.
pub mod JsonLaws
pub mod JsonTexts
pub mod OpenJson
pub mod PieceLines
pub mod Show
