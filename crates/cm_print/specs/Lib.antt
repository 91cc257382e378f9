pub mod DocumentHtml
pub mod Escapes
pub mod InlineTokens
pub mod InlineNodes
pub mod NodeWalk
pub mod Writing
pub mod Printing
pub mod Tables
