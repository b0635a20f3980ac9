pub mod Results
pub mod Anova
pub mod Inner
