mod Checked
mod TokenRuns
mod TextRuns
mod ConditionRuns
mod SelectorRuns
mod PathRuns
mod TokenPasts
mod ConditionPasts
mod SelectorPasts
mod PathPasts
mod Finishing
mod Endings
mod Reaching
pub mod Deciding
mod SelectionLemmas
