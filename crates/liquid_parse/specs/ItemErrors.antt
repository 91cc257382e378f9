-- What is wrong with a piece.
use Rattle.std.specs.Prelude.{◌≡◌, Result, Ok, Err}
use Rattle.site_base.specs.declared.faults.FaultKind.{FaultKind}
use Rattle.site_base.specs.declared.faults.FaultKind.TheVariants.{LiquidSyntax, Overflow}
use Rattle.liquid_expr.specs.declared.stop.ReadExprError.{ReadExprError}
use Rattle.liquid_expr.specs.declared.stop.ReadExprError.TheVariants as read_error
use Rattle.liquid_parse.specs.declared.error.ItemError.{ItemError}
use Rattle.liquid_parse.specs.declared.error.ItemError.TheVariants as item_error

abbrev pub item_error_of : ReadExprError → ItemError
item_error_of read_error.Syntax = item_error.Fault LiquidSyntax
item_error_of read_error.Overflow = item_error.Fault Overflow
item_error_of read_error.Memory = item_error.Memory

abbrev pub ItemFails : {X : Type 0} → ItemError → Result X FaultKind → Type 0
ItemFails (item_error.Fault kind) said = said ≡ Err kind
ItemFails item_error.Memory said = Unit {0}

-- what a piece says, or the kind of its fault, unless memory was wanting
abbrev pub GivesItem : {X : Type 0} → Result X ItemError → Result X FaultKind → Type 0
GivesItem (Ok x) said = said ≡ Ok x
GivesItem (Err error) said = ItemFails error said
