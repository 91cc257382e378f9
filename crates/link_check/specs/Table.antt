-- The table of a link checker: from the paths of pages to their bytes, each with whether it was offered since the table was last begun.
use Rattle.std.specs.Prelude.{Bool, List, None, Some, false, flat_map, map, refl, true, ℕ}
use Rattle.std.specs.Coded.{Coded, code_by, coded_bool, coded_list, coded_ℕ, coded×}
use Rattle.std.specs.FinMap.{FinMap, entries, from_sorted, get, insert}
use Rattle.std.specs.List.{filter}
use Rattle.std.specs.Str.{bytes_eq}
use Rattle.site_base.specs.Places.{path_cmp}
use Rattle.link_check.specs.declared.answering.Broken.{Broken}
use Rattle.link_check.specs.Answered.{broken_links}
use Rattle.link_check.specs.Links.{links}

pub record Kept : Type 0 where
  pub bytes : List ℕ
  pub is_offered : Bool

abbrev pub kept_code : Coded Kept
kept_code = code_by (List ℕ × Bool) (coded× (coded_list coded_ℕ) coded_bool) (λ k. (k.bytes, k.is_offered)) (λ p. record { bytes = p.0; is_offered = p.1 }) (λ _. refl)

abbrev pub Table : Type 0
Table = FinMap path_cmp Kept

-- the path is kept with these bytes
abbrev pub has_bytes : Table → (path bytes : List ℕ) → Bool
has_bytes table path bytes = elim (get table path) [ Some kept ↦ bytes_eq kept.bytes bytes | None ↦ false ]

-- with a path that was offered with these bytes
abbrev pub with_offer : Table → (path bytes : List ℕ) → Table
with_offer table path bytes = insert table path (record { bytes = bytes; is_offered = true })

-- nothing was offered yet
abbrev pub begun : Table → Table
begun table = from_sorted (map (λ e. (e.0, record { bytes = e.1.bytes; is_offered = false })) (entries table))

-- what was not offered is forgotten
abbrev pub finished : Table → Table
finished table = from_sorted (filter (λ e. e.1.is_offered) (entries table))

-- the broken links of all pages, in byte order of their paths, and of each page in their order
abbrev pub broken_in : (List ℕ → Bool) → (base : List ℕ) → Table → List Broken
broken_in has base table = flat_map (λ e. broken_links has e.0 base (links e.1.bytes)) (entries table)
