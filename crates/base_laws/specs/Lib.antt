pub mod Alike
pub mod Bases
pub mod Sound
pub mod FitsBase
pub mod Restoring
pub mod WholeBases
pub mod Dated
pub mod Grounds
