pub mod TrimmedBehind
