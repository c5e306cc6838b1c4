pub mod Words
mod Parts
