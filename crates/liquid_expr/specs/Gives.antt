-- What a call returned is what the definition says, unless memory was wanting.
use Rattle.std.specs.Prelude.{◌≡◌, ℕ, List, Result, Ok, Err}
use Rattle.liquid_grammar.specs.declared.piece.Piece.{Piece}
use Rattle.liquid_expr.specs.declared.cutting.CutError.{CutError}
use Rattle.liquid_expr.specs.declared.cutting.CutError.TheVariants as cut_error

abbrev pub CutFails : CutError → Result (List Piece) ℕ → Type 0
CutFails cut_error.Memory said = Unit {0}
CutFails (cut_error.Unclosed line) said = said ≡ Err line

-- the pieces, seen by their view, or the line of the one without its end
abbrev pub GivesCut : {X : Type 0} → (X → List Piece) → Result X CutError → Result (List Piece) ℕ → Type 0
GivesCut view (Ok pieces) said = said ≡ Ok (view pieces)
GivesCut view (Err error) said = CutFails error said
