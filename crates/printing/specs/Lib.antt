pub mod Answers
pub mod Printing
pub mod HexLaws
