-- The nodes of a kind, by their places.
use Rattle.std.specs.Prelude.{◌≡◌, ◌≤◌, Bool, List, Some, [], drop, false, length, not, slice_get, take, true, ℕ, ◌&&◌, ◌++◌, ◌+◌, ◌∷◌}
use Rattle.cm_inlines.specs.Machine.{change_between, is_sought}
use Rattle.cm_inlines.specs.Machine as sought
use Rattle.cm_inlines.specs.declared.changes.Change.{Change}
use Rattle.cm_inlines.specs.States.{waiting}
use Rattle.cm_spans.specs.declared.spans.Span.{Span}
use Rattle.cm_spans.specs.declared.spans.Span.TheVariants as span
use Rattle.cm_inlines.specs.declared.delimiters.Delimiters.{Delimiters}
use Rattle.cm_inlines.specs.declared.node.Node.{Node}
use Rattle.cm_inlines.specs.declared.node.Node.TheVariants as node
use Rattle.cm_inlines.specs.declared.reading.Found.{Found}

abbrev pub is_run : Node → Bool
is_run (node.Run r) = true
is_run n = false

abbrev pub is_bracket : Node → Bool
is_bracket = is_sought sought.Bracket

-- a bracket that may begin a link
abbrev pub begins_link : Node → Bool
begins_link (node.Opening o) = o.is_active && not o.is_image
begins_link n = false

-- a run or a bracket
abbrev pub is_live : Node → Bool
is_live (node.Run r) = true
is_live (node.Opening o) = true
is_live n = false

abbrev pub listed : Bool → ℕ → List ℕ → List ℕ
listed true at ps = at ∷ ps
listed false at ps = ps

-- the places of the nodes that pass, where the first node has a place
abbrev pub places : (Node → Bool) → ℕ → List Node → List ℕ
places q at [] = []
places q at (n ∷ ns) = listed (q n) at (places q (at + 1) ns)

-- the lists name what is among the nodes
pub record Lists (d : Delimiters) (ns : List Node) : Type 0 where
  pub runs : d.runs.items ≡ places is_run 0 ns
  pub brackets : d.brackets.items ≡ places is_bracket 0 ns
  pub links : d.links.items ≡ places begins_link 0 ns

-- the nodes at these places are changed
abbrev pub change_each : Change → List ℕ → List Node → List Node
change_each how [] ns = ns
change_each how (p ∷ ps) ns = change_each how ps (change_between how p (p + 1) ns)

-- ---- spans

abbrev pub run_places : Span → ℕ → List ℕ
run_places (span.Run m) at = at ∷ []
run_places other at = []

abbrev pub bracket_places : Span → ℕ → List ℕ
bracket_places span.Bracket at = at ∷ []
bracket_places span.ImageBracket at = at ∷ []
bracket_places other at = []

abbrev pub link_places : Span → ℕ → List ℕ
link_places span.Bracket at = at ∷ []
link_places other at = []

-- a span more, whose first node comes to a place
pub record Adds (old new : Delimiters) (s : Span) (at : ℕ) : Type 0 where
  pub runs : new.runs.items ≡ old.runs.items ++ run_places s at
  pub brackets : new.brackets.items ≡ old.brackets.items ++ bracket_places s at
  pub links : new.links.items ≡ old.links.items ++ link_places s at

-- ---- the last bracket

-- a run's place stands behind the bracket, or before it; the bracket itself is on no list any more
pub record IsLast (f : Found) (d : Delimiters) (ns : List Node) : Type 0 where
  pub there : slice_get ns f.place ≡ Some (node.Opening f.opening)
  pub none : places is_bracket (f.place + 1) (drop (f.place + 1) ns) ≡ []
  pub slots : waiting 0 (drop (f.place + 1) ns) ≡ Some 0
  pub runs : d.runs.items ≡ places is_run 0 (take f.place ns) ++ places is_run (f.place + 1) (drop (f.place + 1) ns)
  pub brackets : d.brackets.items ≡ places is_bracket 0 (take f.place ns)
  pub links : d.links.items ≡ places begins_link 0 (take f.place ns)

-- the runs behind a place are paired and done with
pub record Shut (place : ℕ) (old new : List Node) (runs : List ℕ) : Type 0 where
  pub front : take (place + 1) new ≡ take (place + 1) old
  pub within : place + 1 ≤ length new
  pub none : places is_live (place + 1) (drop (place + 1) new) ≡ []
  pub left : runs ≡ places is_run 0 (take place old)
