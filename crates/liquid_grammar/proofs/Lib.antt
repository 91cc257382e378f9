mod ExpressionRows
mod Rows
mod TreeRows
