pub mod EntryLaws
pub mod WordLaws
