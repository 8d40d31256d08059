-- Laws of section 5.
pub mod MaximalRuns
pub mod NextRun
pub mod Severities
pub mod TopBits
pub mod Refusals
pub mod WindowLists
pub mod Spread
pub mod Durations
pub mod Examples
pub mod MaskBack
pub mod Theorems
