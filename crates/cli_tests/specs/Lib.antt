pub mod OddLinks
