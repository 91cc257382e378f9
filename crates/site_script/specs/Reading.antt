-- How far a script is read, by bytes, by lines and by bodies.
use Rattle.std.specs.Prelude.{◌≡◌, ◌⊎◌, ◌≤◌, ◌<◌, Bool, true, false, length, take, drop, ℕ, List, [], ◌∷◌, ◌++◌, Option, Some, None}
use Rattle.site_base.specs.Path.{path_refusal}
use Rattle.site_base.specs.declared.path.PathError.{PathError}
use Rattle.site_base.specs.declared.errors.ReadError.{ReadError}
use Rattle.site_base.specs.declared.errors.ReadError.TheVariants.{Failed}
use Rattle.site_script.specs.Script.{front_line, has_end, after_line, lacks_body, whole_line, HasRead, IsFirstOr}
use Rattle.site_script.specs.declared.head.Head.{Head}
use Rattle.site_script.specs.declared.line.Line.{Line}
use Rattle.site_script.specs.declared.line.Line.TheVariants as line
use Rattle.site_script.specs.declared.raw_line.RawLine.{RawLine}

-- the path is these bytes, or they are refused
abbrev pub IsPathOf : List ℕ → Option (List ℕ) → Type 0
IsPathOf bytes (Some path) = (path ≡ bytes) × (path_refusal bytes ≡ None)
IsPathOf bytes None = (refusal : PathError) × (path_refusal bytes ≡ Some refusal)

-- the first byte of a text and what follows it, or the text has none
abbrev pub IsNext : List ℕ → Option ℕ → Option (List ℕ) → Type 0
IsNext text None after = (text ≡ []) × (after ≡ Some [])
IsNext text (Some b) after = (rest : List ℕ) × (text ≡ b ∷ rest) × (after ≡ Some rest)

-- bytes of the first line were taken, and not its end
abbrev pub StaysInLine : List ℕ → Option (List ℕ) → Type 0
StaysInLine text after = (bytes : List ℕ) × HasRead text bytes after × (has_end bytes ≡ false)

-- the end of a line, where it has one
abbrev pub line_end : Bool → List ℕ
line_end true = 10 ∷ []
line_end false = []

-- a whole line was taken, which is not too long, and where it has no end the text has no more bytes
pub record TakesLine (text bytes : List ℕ) (ended : Bool) (after : Option (List ℕ)) : Type 0 where
  pub read : HasRead text (bytes ++ line_end ended) after
  pub no_end : has_end bytes ≡ false
  pub short : length bytes ≤ 2049
  pub last : ended ≡ false → after ≡ Some []

-- the first line of a text without its LF, or that is too long even with a CR
abbrev pub IsRawLine : List ℕ → Option RawLine → Option (List ℕ) → Type 0
IsRawLine text (Some line) after = (line.bytes.items ≡ front_line text) × (line.ended ≡ has_end text) × (after ≡ Some (after_line text)) × TakesLine text line.bytes.items line.ended after
IsRawLine text None after = (2049 < length (front_line text)) × StaysInLine text after

-- a line that was not read whole; where the input failed, what was taken of it is not yet too long
abbrev pub IsPartOfLine : List ℕ → ReadError → Option (List ℕ) → Type 0
IsPartOfLine text error after = (bytes : List ℕ) × HasRead text bytes after × (has_end bytes ≡ false) × (error ≡ Failed → length bytes ≤ 2049)

-- these bytes of a text were added to others, none only at its end
pub record AddsFrom (text old new : List ℕ) (count : ℕ) (after : Option (List ℕ)) : Type 0 where
  pub added : new ≡ old ++ take count text
  pub within : count ≤ length text
  pub left : after ≡ Some (drop count text)
  pub none_at_end : count ≡ 0 → text ≡ []

-- the first bytes of a text, or it has not so many
abbrev pub IsBody : ℕ → List ℕ → Option (List ℕ) → Option (List ℕ) → Type 0
IsBody count text (Some bytes) after = (bytes ≡ take count text) × (count ≤ length text) × (after ≡ Some (drop count text))
IsBody count text None after = (length text < count) × (after ≡ Some [])

-- no more bytes were taken of a text than were asked for, and fewer where the input failed
abbrev pub IsPartOfBody : ℕ → List ℕ → ReadError → Option (List ℕ) → Type 0
IsPartOfBody count text error after = (bytes : List ℕ) × HasRead text bytes after × (length bytes ≤ count) × (error ≡ Failed → length bytes < count)

-- one read that failed took nothing, and one whose bytes could not be kept at most so many
abbrev pub IsPartOfRead : ℕ → List ℕ → ReadError → Option (List ℕ) → Type 0
IsPartOfRead most text error after = (bytes : List ℕ) × HasRead text bytes after × (length bytes ≤ most) × (error ≡ Failed → bytes ≡ [])

-- of a text that begins with what a head asks for, that line was read, unless memory was wanting, or the input failed before the body was whole
abbrev pub ReadsRest : ℕ → Head → List ℕ → Line → Option (List ℕ) → Type 0
ReadsRest number head text at left =
    ((at ≡ line.Failed) × ((bytes : List ℕ) × HasRead text bytes left × (lacks_body head bytes ≡ true)))
    ⊎ IsFirstOr (whole_line number head text) text at left
