-- What the parser returned against the definition.
use Rattle.std.specs.Prelude.{◌≡◌, List, Result, Ok, Err}
use Rattle.std.specs.Global.{Vec}
use Rattle.liquid_grammar.specs.Trees.{Tree, Fault, fault}
use Rattle.liquid_parse.specs.declared.node.Node.{Node}
use Rattle.liquid_parse.specs.declared.error.ParseError.{ParseError}
use Rattle.liquid_parse.specs.declared.error.ParseError.TheVariants as parse_error

abbrev pub ParseFails : {X : Type 0} → ParseError → Result X Fault → Type 0
ParseFails (parse_error.Fault line kind) said = said ≡ Err (fault line kind)
ParseFails parse_error.Memory said = Unit {0}

-- the tree that the text is, or its first fault, unless memory was wanting
abbrev pub Parses : Result Tree ParseError → Result Tree Fault → Type 0
Parses (Ok t) said = said ≡ Ok t
Parses (Err error) said = ParseFails error said

abbrev pub Finishes : Result (Vec Node) ParseError → Result (List Node) Fault → Type 0
Finishes (Ok nodes) said = said ≡ Ok nodes.items
Finishes (Err error) said = ParseFails error said
