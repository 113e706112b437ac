pub mod Along
pub mod Apart
pub mod Before
pub mod Completions
pub mod Criteria
pub mod CriteriaLawProof
pub mod CutLaws
pub mod CutsProof
pub mod DecisionProof
mod Examples
pub mod OneMore
pub mod Places
pub mod QuietLaws
pub mod QuietProof
pub mod QuietTexts
pub mod Removals
mod Shared
pub mod StrictCuts
pub mod StrictQuiet
pub mod TextsProof
pub mod VerdictProof
pub mod Weaker
pub mod WindowsProof
