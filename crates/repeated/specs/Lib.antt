pub mod Results
pub mod Anova
