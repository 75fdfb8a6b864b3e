pub mod Counting
pub mod Decimals
pub mod Drawing
pub mod Filling
pub mod MadeTexts
pub mod NumberWords
