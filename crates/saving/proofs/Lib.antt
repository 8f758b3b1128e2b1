-- CaseChecks: which number a case is refused with. Saves: what saving answers.
pub mod CaseChecks
pub mod Saves
