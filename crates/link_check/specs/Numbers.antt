-- How the table keeps its pages: the values of their links stand once each, and a page has their numbers.
use Rattle.std.specs.Prelude.{◌≡◌, Bool, List, None, Option, Some, [], false, map, suc, true, zero, ℕ, ◌∷◌}
use Rattle.std.specs.BTreeMap.{BTreeMap, UpdatesBy, get}
use Rattle.std.specs.Cmp.Lexicographic.{slice_cmp}
use Rattle.std.specs.FinMap.{from_sorted}
use Rattle.std.specs.List.{AllByRecursion}
use Rattle.std.specs.Ordering.{nat_cmp}
use Rattle.site_base.specs.Places.{PathsRise}
use Rattle.link_check.specs.declared.page.Page.{Page}
use Rattle.link_check.specs.declared.value_table.Slot.{Slot}
use Rattle.link_check.specs.Links.{links}
use Rattle.link_check.specs.Table.{Kept, Table}

-- what a place has, if there is one
abbrev pub held_at : {A : Type 0} → List (Option A) → ℕ → Option A
held_at [] n = None
held_at (x ∷ xs) zero = x
held_at (x ∷ xs) (suc n) = held_at xs n

-- the texts by their numbers
abbrev pub texts_of : List Slot → List (Option (List ℕ))
texts_of slots = map (λ (s : Slot). s.text) slots

-- a number that has a text still has it
abbrev pub Keeps : List (Option (List ℕ)) → List (Option (List ℕ)) → Type 0
Keeps old new = (n : ℕ) (text : List ℕ) → held_at old n ≡ Some text → held_at new n ≡ Some text

-- the numbers are those of the texts
abbrev pub AreNumbers : List (Option (List ℕ)) → (numbers : List ℕ) → (texts : List (List ℕ)) → Type 0
AreNumbers values numbers texts = map (held_at values) numbers ≡ map (λ t. Some t) texts

-- the page has the numbers of its links' values
abbrev pub IsNumbered : List (Option (List ℕ)) → List ℕ × Page → Type 0
IsNumbered values entry = AreNumbers values entry.1.links.items (links entry.1.bytes)

abbrev pub AreNumbered : List (Option (List ℕ)) → List (List ℕ × Page) → Type 0
AreNumbered values entries = map (λ e. map (held_at values) e.1.links.items) entries ≡ map (λ e. map (λ t. Some t) (links e.1.bytes)) entries

-- a page that was not offered
abbrev pub unoffered : List ℕ × Page → List ℕ × Page
unoffered entry = (entry.0, record { bytes = entry.1.bytes; links = entry.1.links; is_offered = false })

abbrev pub is_left : List ℕ × Page → Bool
is_left entry = entry.1.is_offered

abbrev pub seen : Page → Kept
seen page = record { bytes = page.bytes; is_offered = page.is_offered }

abbrev pub table_of : List (List ℕ × Page) → Table
table_of entries = from_sorted (map (λ e. (e.0, seen e.1)) entries)

pub record IsSound (values : List (Option (List ℕ))) (entries : List (List ℕ × Page)) : Type 0 where
  pub rises : PathsRise entries
  pub numbered : AreNumbered values entries

-- ---- the index of the texts, and which slots are used

-- what the index finds has this text
abbrev pub IsIndex : List (Option (List ℕ)) → BTreeMap (List ℕ) ℕ → Type 0
IsIndex values numbers = (text : List ℕ) (number : ℕ) → get (slice_cmp nat_cmp) numbers text ≡ Some number → held_at values number ≡ Some text

-- the index no longer finds the text, if there is one
abbrev pub Forgets : Option (List ℕ) → BTreeMap (List ℕ) ℕ → BTreeMap (List ℕ) ℕ → Type 0
Forgets None old new = new ≡ old
Forgets (Some text) old new = UpdatesBy (slice_cmp nat_cmp) (slice_cmp nat_cmp text) old new None

abbrev pub used_at : List Slot → ℕ → Bool
used_at [] n = false
used_at (s ∷ slots) zero = s.is_used
used_at (s ∷ slots) (suc n) = used_at slots n

-- more slots are used
pub record Marks (old new : List Slot) : Type 0 where
  pub texts : texts_of new ≡ texts_of old
  pub used : (n : ℕ) → used_at old n ≡ true → used_at new n ≡ true

-- if there is a text, its slot is used
abbrev pub IsSafe : List Slot → ℕ → Type 0
IsSafe slots n = (text : List ℕ) → held_at (texts_of slots) n ≡ Some text → used_at slots n ≡ true

abbrev pub AreSafe : List Slot → List ℕ → Type 0
AreSafe slots numbers = AllByRecursion (IsSafe slots) numbers

-- the slots that are used stay as they are
abbrev pub KeepsUsed : List Slot → List Slot → Type 0
KeepsUsed old new = (n : ℕ) (text : List ℕ) → held_at (texts_of old) n ≡ Some text → used_at old n ≡ true → (held_at (texts_of new) n ≡ Some text) × (used_at new n ≡ true)
