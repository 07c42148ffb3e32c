pub mod CodePoints
