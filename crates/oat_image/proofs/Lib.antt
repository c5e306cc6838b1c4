mod Loop
mod Names
mod Sections
mod Forms
mod Versions
mod Keywords
mod RowForms
mod Images
pub mod ImageTexts
mod Examples
mod Texts
mod WellFormed
