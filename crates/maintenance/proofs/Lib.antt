pub mod Within
pub mod SeriesLemmas
pub mod DayLemmas
pub mod WeekLemmas
pub mod MonthLemmas
pub mod Anyone
pub mod Deciding
