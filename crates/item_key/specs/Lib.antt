pub mod Fault
pub mod Grammar
pub mod Machine
pub mod Meaning
