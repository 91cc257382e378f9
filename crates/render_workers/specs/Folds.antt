-- Rendering the items of a site one after another, from nothing: what a round has to give, whatever is kept.
use Rattle.std.specs.Prelude.{◌≡◌, ℕ, ◌+◌, ◌<◌, true, nat_le, if◌then◌else◌, List, [], ◌∷◌, ◌++◌, length, slice_get, Option, Some, None, Result, Ok, Err}
use Rattle.site_base.specs.declared.faults.FaultKind.TheVariants.{TreeTooLong}
use Rattle.site_base.specs.declared.faults.SiteFault.{SiteFault}
use Rattle.site_base.specs.declared.item_name.ItemName.{ItemName}
use Rattle.read_record.specs.declared.outcome.Outcome.{Outcome}
use Rattle.read_record.specs.declared.outcome.Outcome.TheVariants.{Done, Fault}
use Rattle.read_record.specs.Queries.{Met, Gave, Failed, Missed, interpret}
use Rattle.read_record.specs.Outcomes.{Page, is_done}
use Rattle.round_core.specs.Meant.{Given}

-- ---- how long a tree may be

-- the most bytes of a tree
abbrev pub most_tree_bytes : ℕ
most_tree_bytes = 1073741824

-- so many bytes, unless no tree may have them
abbrev pub tree_sum : ℕ → Option ℕ
tree_sum n = if nat_le n most_tree_bytes then Some n else None

abbrev pub tree_too_long : ItemName → SiteFault
tree_too_long name = record { path = name.path; line = 0; kind = TreeTooLong }

abbrev pub or_too_long : ItemName → Option ℕ → Result ℕ SiteFault
or_too_long name (Some n) = Ok n
or_too_long name None = Err (tree_too_long name)

-- the bytes so far with those of an item, or the item's fault
abbrev pub counted : Outcome → ItemName → ℕ → Result ℕ SiteFault
counted (Done content output) name bytes = or_too_long name (tree_sum (bytes + (length content + length output)))
counted (Fault f) name bytes = Err f

-- ---- one item after another

-- the outcomes of all items, or the first fault with the place of its item, or a key that is missed, which never comes
abbrev pub Folded : Type 0
Folded = Met (ℕ × SiteFault) (List Outcome)

abbrev pub after_count : Result ℕ SiteFault → Outcome → List Outcome → (List Outcome → ℕ → Folded) → Folded
after_count (Ok bytes) outcome outs next = next (outs ++ outcome ∷ []) bytes
after_count (Err f) outcome outs next = Failed (length outs, f)

abbrev pub after_item : Met SiteFault Page → ItemName → List Outcome → ℕ → (List Outcome → ℕ → Folded) → Folded
after_item (Gave page) name outs bytes next = after_count (counted (Done page.content page.output) name bytes) (Done page.content page.output) outs next
after_item (Failed f) name outs bytes next = Failed (length outs, f)
after_item (Missed k j) name outs bytes next = Missed k j

-- the items of these names, behind those that have these outcomes and this number of bytes: each sees all outcomes before it
unfoldable pub fold_from : Given → List ItemName → List Outcome → ℕ → Folded
fold_from g [] outs bytes = Gave outs
fold_from g (name ∷ names) outs bytes = after_item (interpret (g.sight (length outs) (slice_get outs)) (g.item name)) name outs bytes (fold_from g names)

-- all items, beside so many bytes of other files
abbrev pub fold_of : Given → ℕ → Folded
fold_of g fixed = fold_from g g.names [] fixed

-- no key is missed
abbrev pub IsTold : Folded → Type 0
IsTold (Gave outs) = Unit {0}
IsTold (Failed e) = Unit {0}
IsTold (Missed k j) = ⊥

-- the items below n are done
abbrev pub AreDone : ℕ → (ℕ → Option Outcome) → Type 0
AreDone n known = (j : ℕ) → j < n → is_done (known j) ≡ true
