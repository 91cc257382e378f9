-- The pages of an output that are known, and which of their links are broken.
use Rattle.std.specs.Prelude.{◌≡◌, ◌⊎◌, Bool, List, None, Some, [], codes, false, filter, flat_map, if◌then◌else◌, length, nat_eq, not, ℕ, ◌∷◌}
use Rattle.std.specs.FinMap.{contains_key, entries, from_sorted, get}
use Rattle.std.specs.List.{ends_with}
use Rattle.std.specs.Str.{bytes_eq}
use Rattle.link_check.specs.Answered.{broken_links}
use Rattle.link_check.specs.Links.{links}
use Rattle.link_check.specs.declared.answering.Broken.{Broken}
use Rattle.out_tree.specs.Belief.{Belief}
use Rattle.out_tree.specs.declared.state.State.{State}
use Rattle.out_tree.specs.declared.state.State.TheVariants.{Known, Marked}
use Rattle.site_base.specs.Places.{Files}

-- a page of an output: its path, and its bytes
abbrev pub Page : Type 0
Page = List ℕ × List ℕ

abbrev pub is_page : (path : List ℕ) → Bool
is_page path = ends_with nat_eq path (codes ".html")

-- the page at a path, if it is one and its bytes are known
abbrev pub page_by : (path : List ℕ) → State → List Page
page_by path (Known bytes) = if is_page path then (path, bytes) ∷ [] else []
page_by path Marked = []

abbrev pub page_at : List ℕ × State → List Page
page_at entry = page_by entry.0 entry.1

-- the known pages, in byte order of their paths
abbrev pub known_pages : Belief → List Page
known_pages belief = flat_map page_at (entries belief)

abbrev pub pages : Belief → Files
pages belief = from_sorted (known_pages belief)

-- ---- broken links

-- a path answers a link where it may be there: it is known or marked
abbrev pub is_there : Belief → List ℕ → Bool
is_there belief path = contains_key belief path

-- the broken links of all known pages, in byte order of their paths, and of each page in their order
abbrev pub broken : Belief → (base : List ℕ) → List Broken
broken belief base = flat_map (λ page. broken_links (is_there belief) page.0 base (links page.1)) (known_pages belief)

-- ---- pages that were looked at

-- the page was looked at when it had these bytes
abbrev pub has_seen : Files → Page → Bool
has_seen scanned page = elim (get scanned page.0) [ Some bytes ↦ bytes_eq bytes page.1 | None ↦ false ]

-- how many known pages were not
abbrev pub unseen : Files → Belief → ℕ
unseen scanned belief = length (filter (λ page. not (has_seen scanned page)) (known_pages belief))

-- each path is as it was, or as it is in the output
abbrev pub LooksAtSome : (old : Files) → Belief → (new : Files) → Type 0
LooksAtSome old belief new = (path : List ℕ) → (get new path ≡ get old path) ⊎ (get new path ≡ get (pages belief) path)
