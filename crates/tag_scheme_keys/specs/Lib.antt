pub mod PureIdentity
pub mod KeyText
pub mod KeyFaults
pub mod SupplierIdentity
