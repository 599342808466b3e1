pub mod Adapters
pub mod Moments
pub mod Pieces
pub mod Queues
pub mod SinkLaws
pub mod Tables
pub mod Turned
