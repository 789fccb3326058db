pub mod Gaps
pub mod Joins
pub mod LongestPrefixes
pub mod OneScan
pub mod PlacedTokens
pub mod Standing
pub mod TokenForms
