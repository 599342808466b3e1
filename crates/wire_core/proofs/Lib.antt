pub mod PeerLaws
pub mod Others
pub mod Entries
