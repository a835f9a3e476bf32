pub mod Grammar
pub mod Faults
pub mod Scan
pub mod Machine
pub mod Laws
