-- Emphasis by rewriting the list of pieces: the first closer that has an opener is paired with the nearest, again and again. CommonMark 0.31.2, section 6.2.
use Rattle.std.specs.Prelude.{Bool, List, None, Option, Some, [], false, if◌then◌else◌, nat_lt, not, replicate, true, ℕ, ◌%◌, ◌&&◌, ◌++◌, ◌+◌, ◌-◌, ◌==◌, ◌||◌, ◌∷◌, ◌≡◌}
use Rattle.site_base.specs.Recursion.{down}
use Rattle.site_text.specs.Bytes.{exclamation_mark, left_bracket}
use Rattle.markdown_grammar.specs.Inlines.{Inlines, before_all, emphasis, no_inlines, strong, textual}
use Rattle.markdown_grammar.specs.Pieces.{Piece, delimiter_run, finished, open_bracket}

-- what is left is text
abbrev pub bracket_text : Bool → List ℕ
bracket_text true = exclamation_mark ∷ left_bracket ∷ []
bracket_text false = left_bracket ∷ []

-- what is left of a piece that nothing pairs: text
abbrev pub as_inlines : Piece → Inlines
as_inlines (finished xs) = xs
as_inlines (delimiter_run mark len first o c) = textual (replicate len mark) no_inlines
as_inlines (open_bracket is_image active behind) = textual (bracket_text is_image) no_inlines

-- the inlines of pieces of which none is paired any more
abbrev pub plain : List Piece → Inlines
plain [] = no_inlines
plain (p ∷ ps) = before_all (as_inlines p) (plain ps)

-- where a run can both open and close, the lengths at first must fit (rules 9 and 10)
abbrev pub lengths_fit : ℕ → ℕ → Bool
lengths_fit m n = not ((m + n) % 3 == 0) || ((m % 3 == 0) && (n % 3 == 0))

-- whether a piece opens for a closer of this mark and length at first, which may open too
abbrev pub opens_for : ℕ → ℕ → Bool → Piece → Bool
opens_for mark first opens (delimiter_run m len f o both) = o && ((m == mark) && (not (both || opens) || lengths_fit f first))
opens_for mark first opens (finished xs) = false
opens_for mark first opens (open_bracket is_image active behind) = false

-- the pieces before one, it, and those after it
abbrev pub Found : Type 0
Found = List Piece × Piece × List Piece

-- what was found later, else this piece where it passes
abbrev pub or_here : Option Found → Bool → Piece → List Piece → Option Found
or_here (Some f) b p ps = Some (p ∷ f.0, f.1, f.2)
or_here None true p ps = Some ([], p, ps)
or_here None false p ps = None

-- the last piece that passes, with what stands before and after it
abbrev pub last_that : (Piece → Bool) → List Piece → Option Found
last_that q [] = None
last_that q (p ∷ ps) = or_here (last_that q ps) (q p) p ps

-- how many marks a run has now
abbrev pub len_of : Piece → ℕ
len_of (delimiter_run mark len first o c) = len
len_of (finished xs) = 0
len_of (open_bracket is_image active behind) = 0

-- two marks where both runs have two
abbrev pub strength : ℕ → ℕ → ℕ
strength m n = if nat_lt 1 m && nat_lt 1 n then 2 else 1

-- a run without k of its marks
abbrev pub shorten : ℕ → Piece → List Piece
shorten k (delimiter_run mark len first o c) = if nat_lt k len then delimiter_run mark (len - k) first o c ∷ [] else []
shorten k (finished xs) = []
shorten k (open_bracket is_image active behind) = []

-- emphasis or, of two marks, strong emphasis
abbrev pub stressed : ℕ → Inlines → Piece
stressed k body = finished (if k == 2 then strong body no_inlines else emphasis body no_inlines)

-- what a closer makes of the pieces before it, and what is left of it
abbrev pub paired : ℕ → Piece → Option Found → Option (List Piece × List Piece)
paired len p None = None
paired len p (Some f) = let k = strength (len_of f.1) len in Some (f.0 ++ (shorten k f.1 ++ stressed k (plain f.2) ∷ []), shorten k p)

-- what a piece makes as a closer, where the pieces before it have an opener
abbrev pub pair_with : List Piece → Piece → Option (List Piece × List Piece)
pair_with before (delimiter_run mark len first o true) = paired len (delimiter_run mark len first o true) (last_that (opens_for mark first o) before)
pair_with before (delimiter_run mark len first o false) = None
pair_with before (finished xs) = None
pair_with before (open_bracket is_image active behind) = None

-- the pair that this closer made, else what the later ones make
abbrev pub then_go : Option (List Piece × List Piece) → List Piece → Option (List Piece) → Option (List Piece)
then_go (Some made) ps later = Some (made.0 ++ (made.1 ++ ps))
then_go None ps later = later

-- the first closer that has an opener, paired
abbrev pub first_pairing : List Piece → List Piece → Option (List Piece)
first_pairing before [] = None
first_pairing before (p ∷ ps) = then_go (pair_with before p) ps (first_pairing (before ++ p ∷ []) ps)

-- the rest, where a pair was made
abbrev pub pairing_again : Option (List Piece) → (List Piece → Inlines) → List Piece → Inlines
pairing_again None rest ps = plain ps
pairing_again (Some qs) rest ps = rest qs

-- one pair, and again what that leaves
abbrev pub pairs_step : (List Piece → Inlines) → List Piece → Inlines
pairs_step rest ps = pairing_again (first_pairing [] ps) rest ps

-- the marks that are left, and one for each run
abbrev pub marks_of : Piece → ℕ
marks_of (delimiter_run mark len first o c) = len + 1
marks_of (finished xs) = 0
marks_of (open_bracket is_image active behind) = 0

-- all the marks, which become fewer with each pair
abbrev pub marks : List Piece → ℕ
marks [] = 0
marks (p ∷ ps) = marks_of p + marks ps

-- the inlines of pieces: pairs until no closer has an opener
unfoldable pub pairs : List Piece → Inlines
pairs ps = down marks no_inlines pairs_step ps

-- ---- the pieces one after another: a stack holds those that no closer has paired

-- no closer among the pieces has an opener
abbrev pub Settled : List Piece → Type 0
Settled cur = first_pairing [] cur ≡ None

-- what one more piece does to settled pieces, where it makes a pair or not
abbrev pub StepOf : Option (List Piece × List Piece) → List Piece → Piece → List Piece → Type 0
StepOf None cur p ps = Settled (cur ++ p ∷ [])
StepOf (Some made) cur p ps = Settled made.0 × (pairs (cur ++ p ∷ ps) ≡ pairs (made.0 ++ (made.1 ++ ps)))

-- one more piece: with no opener it is settled; else its pair leaves settled pieces, and what remains of the closer meets these
abbrev pub IsStep : List Piece → Piece → List Piece → Type 0
IsStep cur p ps = StepOf (pair_with cur p) cur p ps
