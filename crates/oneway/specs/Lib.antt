pub mod Summary
pub mod Fisher
pub mod Welch
pub mod Levene
pub mod Anova
pub mod Inner
