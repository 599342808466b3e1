mod RadixLemmas
mod RateLemmas
mod Replacing
mod Trimming
