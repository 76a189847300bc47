pub mod Names
mod SpelledNumbers
mod ShortNumbers
mod LeadingNumbers
mod Words
mod Plain
mod Splitting
mod ListedLengths
mod WholeTexts
mod Pieces
mod ListedLines
mod Recorded
mod Adding
