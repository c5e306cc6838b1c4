mod PieceLaws
mod Plain
mod Ranged
mod ReaderLaws
