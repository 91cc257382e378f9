mod BelowPosts
mod Capitals
mod Cutting
mod Placing
mod Taking
mod Utf8Tests
