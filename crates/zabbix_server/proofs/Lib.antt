mod Untold
mod Uncopied
