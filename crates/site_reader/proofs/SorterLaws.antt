-- What sorts documents is what the configuration says.
use Rattle.std.proofs.Common.{◌≡◌, ℕ, List, Option, Some, None, refl, sym, ap, ◌∙◌}
use Rattle.std.proofs.lemmas.Option.{same_Some, slice_get-map}
use Rattle.std.specs.Option.{option_map}
use Rattle.std.specs.Prelude.{slice_get}
use Rattle.site_base.specs.Plain.{Pairs}
use Rattle.site_config.specs.declared.collection.Collection.{Collection}
use Rattle.site_config.specs.declared.config.Config.{Config}
use Rattle.site_config.specs.declared.sorting.Sorting.{Sorting}
use Rattle.site_items.specs.Addresses.{below_folder}
use Rattle.site_items.specs.declared.kind.Kind.{Kind}
use Rattle.site_items.specs.declared.kind.Kind.TheVariants as kind
use Rattle.site_reader.specs.Ranks.{collection_key, document_key, sort_key}
use Rattle.site_reader.specs.Sorters.{AreSorters, sorter_of, sorting_of}
use Rattle.site_reader.specs.declared.sort_key.SortKey.TheVariants as key
use Rattle.site_reader.specs.declared.sorter.Sorter.{Sorter}

module _ (config : Config) (sorters : List Sorter) (are : AreSorters config sorters) where
  abbrev said : Collection → Sorting
  said c = c.sorting

  at_place : (n : ℕ) → option_map sorting_of (slice_get sorters n) ≡ option_map said (slice_get config.collections n)
  at_place n = sym (slice_get-map sorting_of sorters n) ∙ ap (λ ss. slice_get ss n) are ∙ slice_get-map said config.collections n

  module _ (path : List ℕ) (vars : Pairs) where
    found_key : (s : Sorting) (o : Option Collection) → Some s ≡ option_map said o → sort_key s path vars ≡ collection_key o path vars
    found_key s None e = absurd (cc (e))
    found_key s (Some c) e = ap (λ t. sort_key t path vars) (same_Some s c.sorting e)

    no_key : (o : Option Collection) → None ≡ option_map said o → key.Last ≡ collection_key o path vars
    no_key None e = refl
    no_key (Some c) e = absurd (cc (e))

  pub by_sorter : (k : Kind) (path : List ℕ) (vars : Pairs) (s : Sorter) → Some s ≡ sorter_of sorters k → sort_key (sorting_of s) (below_folder config k path) vars ≡ document_key config k path vars
  by_sorter (kind.Document n) path vars s e = found_key (below_folder config (kind.Document n) path) vars (sorting_of s) (slice_get config.collections n) (ap (option_map sorting_of) e ∙ at_place n)
  by_sorter kind.Page path vars s e = absurd (cc (e))
  by_sorter kind.Post path vars s e = absurd (cc (e))
  by_sorter kind.Draft path vars s e = absurd (cc (e))

  pub without_sorter : (k : Kind) (path : List ℕ) (vars : Pairs) → None ≡ sorter_of sorters k → key.Last ≡ document_key config k path vars
  without_sorter (kind.Document n) path vars e = no_key (below_folder config (kind.Document n) path) vars (slice_get config.collections n) (ap (option_map sorting_of) e ∙ at_place n)
  without_sorter kind.Page path vars e = refl
  without_sorter kind.Post path vars e = refl
  without_sorter kind.Draft path vars e = refl
