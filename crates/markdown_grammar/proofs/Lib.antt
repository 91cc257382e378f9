pub mod Extending
pub mod OpenEndWalk
pub mod LightRules
pub mod LazyLaws
pub mod Pairing
pub mod TextRecursions
mod Rows
