pub mod HexLemmas
pub mod FormLemmas
pub mod Beginnings
pub mod AllLemmas
pub mod ListLemmas
pub mod PrefixLemmas
