pub mod Escapes
pub mod WrittenNumbers
pub mod WrittenCalls
pub mod WrittenTrees
