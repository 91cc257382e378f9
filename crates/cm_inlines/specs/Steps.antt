-- What each step does with the list of nodes.
use Rattle.std.specs.Prelude.{Bool, List, None, Option, Some, [], drop, false, if◌then◌else◌, length, replicate, slice_get, slice_set, take, true, ℕ, ◌++◌, ◌+◌, ◌-◌, ◌∷◌}
use Rattle.markdown_grammar.specs.Definitions.{Definition}
use Rattle.markdown_grammar.specs.Links as links
use Rattle.cm_spans.specs.declared.flanking.Marks.{Marks}
use Rattle.cm_spans.specs.declared.spans.Span.{Span}
use Rattle.cm_spans.specs.declared.spans.Span.TheVariants as span
use Rattle.cm_inlines.specs.Machine.{change_between, is_sought, last_place, pair_from}
use Rattle.cm_inlines.specs.declared.changes.Change.TheVariants.{Calm, Freeze}
use Rattle.cm_inlines.specs.declared.node.Node.{Node}
use Rattle.cm_inlines.specs.declared.node.Opening.{Opening}
use Rattle.cm_inlines.specs.declared.node.Target.{Target}
use Rattle.cm_inlines.specs.declared.node.Node.TheVariants as node
use Rattle.cm_inlines.specs.Machine as sought
use Rattle.cm_inlines.specs.declared.reading.Found.{Found}
use Rattle.cm_inlines.specs.declared.targets.Reached.{Reached}

-- ---- spans

abbrev pub opening_node : Bool → ℕ → Node
opening_node is_image behind = node.Opening (record { is_image = is_image; is_active = true; behind = behind })

abbrev pub run_node : Marks → Node
run_node m = node.Run (record { mark = m.mark; len = m.len; first = m.len; opens = m.opens; closes = m.closes })

abbrev pub run_nodes : Marks → List Node
run_nodes m = run_node m ∷ replicate (m.len - 1) node.Nothing

abbrev pub span_nodes : Span → ℕ → List Node
span_nodes (span.Text s) at = node.Text s ∷ []
span_nodes (span.Character c) at = node.Character c ∷ []
span_nodes span.SoftBreak at = node.SoftBreak ∷ []
span_nodes span.HardBreak at = node.HardBreak ∷ []
span_nodes (span.Code s) at = node.Code s ∷ []
span_nodes (span.Html s) at = node.Html s ∷ []
span_nodes (span.Uri s) at = node.Uri s ∷ []
span_nodes (span.Email s) at = node.Email s ∷ []
span_nodes (span.Run m) at = run_nodes m
span_nodes span.Bracket at = opening_node false (at + 1) ∷ []
span_nodes span.ImageBracket at = opening_node true (at + 2) ∷ []

-- ---- closing brackets

abbrev pub opening_of : Option Node → Option Opening
opening_of (Some (node.Opening o)) = Some o
opening_of other = None

abbrev pub found_at : ℕ → Option Opening → Option Found
found_at place (Some o) = Some (record { place = place; opening = o })
found_at place None = None

abbrev pub found_in : List Node → Option ℕ → Option Found
found_in ns (Some place) = found_at place (opening_of (slice_get ns place))
found_in ns None = None

-- the last bracket that may begin a link or an image
abbrev pub last_opening : List Node → Option Found
last_opening ns = found_in ns (last_place (is_sought sought.Bracket) ns)

-- where the brackets go that begin there and end here
abbrev pub reached_by : List Definition → List ℕ → ℕ → Opening → Option links.Reached
reached_by defs t at o = if o.is_active then links.target_of defs (take (at - o.behind) (drop o.behind t)) (drop (at + 1) t) else None

abbrev pub taken_by : Option Reached → ℕ
taken_by (Some r) = r.len
taken_by None = 0

-- what stands behind a place is paired, and paired no more
abbrev pub inside_paired : ℕ → List Node → List Node
inside_paired place ns = let paired = pair_from (place + 1) (place + 1) (length ns - (place + 1)) ns in change_between Freeze (place + 1) (length paired) paired

abbrev pub image_nodes : ℕ → Target → List Node → List Node
image_nodes place target ns = slice_set (inside_paired place ns) place (node.OpenImage target) ++ node.CloseImage ∷ []

abbrev pub link_nodes : ℕ → Target → List Node → List Node
link_nodes place target ns = change_between Calm 0 place (slice_set (inside_paired place ns) place (node.OpenLink target)) ++ node.CloseLink ∷ []

abbrev pub closed_with : ℕ → Bool → Target → List Node → List Node
closed_with place true target ns = image_nodes place target ns
closed_with place false target ns = link_nodes place target ns

-- a closing bracket as text, and the opening one too
abbrev pub closing_node : Node
closing_node = node.Character 93

abbrev pub unlinked_nodes : Found → List Node → List Node
unlinked_nodes f ns = slice_set ns f.place (node.Bracket f.opening.is_image) ++ closing_node ∷ []

abbrev pub closed_nodes : Found → Option Reached → List Node → List Node
closed_nodes f (Some r) ns = closed_with f.place f.opening.is_image r.target ns
closed_nodes f None ns = unlinked_nodes f ns
