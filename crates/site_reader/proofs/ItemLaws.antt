-- Items and copied files, where each path has a weight.
use Rattle.std.proofs.Common.{◌≡◌, ℕ, ◌+◌, ◌≤◌, Bool, List, [], ◌∷◌, length, map, Option, Some, None, Ok, arith, refl, ap}
use Rattle.std.specs.Prelude.{ℤ}
use Rattle.site_config.specs.declared.config.Config.{Config}
use Rattle.site_config.specs.declared.scope.Scope.{Scope}
use Rattle.site_items.specs.Defaults.{by_strength}
use Rattle.site_items.specs.Items.{item}
use Rattle.site_items.specs.declared.item.Item.{Item}
use Rattle.site_items.specs.declared.kind.Kind.{Kind}
use Rattle.site_items.specs.declared.static_file.StaticFile.{StaticFile}
use Rattle.site_reader.specs.Found.{each, in_file}
use Rattle.site_reader.specs.Neighbours.{site_items}
use Rattle.site_reader.specs.Placing.{File, Placed, as_copy, as_item, placed}
use Rattle.site_reader.specs.Ranks.{Ranked, rank, rank_cmp, with_item}
use Rattle.site_reader.specs.Sites as sites
use Rattle.site_reader.specs.declared.rank.Rank.{Rank}
use Rattle.site_reader.specs.declared.site_item.SiteItem.{SiteItem}
use Rattle.site_reader.proofs.Weights.{each_adds, found_before, found_value, weight, weight-append, weight-insert_entry, weight-map, weight_length}

module _ (w : List ℕ → ℕ) where
  abbrev ranks : Ranked → ℕ
  ranks made = weight (λ e. w e.0.path) made

  with_item_adds : (config : Config) (k : Kind) (path : List ℕ) (made : Option Item) (ranked : Ranked) → ranks (with_item config k path made ranked) ≤ ranks ranked + w path
  with_item_adds config k path None ranked = omega arith
  with_item_adds config k path (Some made) ranked =
      omega (arith, weight-insert_entry rank_cmp (λ r. w r.path) (rank config k path made) made ranked)

  add_kind_adds : (config : Config) (scopes : List Scope) (now : ℤ) (future : Bool) (f : File) (k : Option Kind) (ranked more : Ranked)
      → sites.add_kind config scopes now future f k ranked ≡ Ok more → ranks more ≤ ranks ranked + w f.0
  add_kind_adds config scopes now future f None ranked more e = omega (arith, ap ranks (found_value ranked more e))
  add_kind_adds config scopes now future f (Some k) ranked more e =
      let made = found_before (in_file f.0 (item config scopes now future k f.0 f.1)) _ more e in
      omega (arith, ap ranks (found_value _ more made.2), with_item_adds config k f.0 made.0 ranked)

  items_seen : (documents : ℕ) (before : Option Rank) (ranked : Ranked) → weight (λ i. w i.name.path) (site_items documents before ranked) ≡ ranks ranked
  unfolding site_items
  items_seen documents before [] = refl
  items_seen documents before (e ∷ es) = ap (λ n. w e.0.path + n) (items_seen documents (Some e.0) es)

  -- the paths of items weigh no more than those of files
  pub items_by_add : (scopes : List Scope) (config : Config) (now : ℤ) (future : Bool) (files : List Placed) (made : List SiteItem)
      → sites.items_by scopes config now future files ≡ Ok made → weight (λ i. w i.name.path) made ≤ weight (λ f. w f.1.0) files
  items_by_add scopes config now future files made e =
      let ranked = found_before (each (sites.add_item config scopes now future) files []) (sites.items_in_order config) made e in
      let adds : ranks ranked.0 ≤ 0 + weight (λ (f : Placed). w f.1.0) files =
      each_adds (sites.add_item config scopes now future) ranks (λ f. w f.1.0) (λ f made more is. add_kind_adds config scopes now future f.1 (as_item f) made more is) files [] ranked.0 ranked.1 in
      omega (arith, adds, items_seen (length config.collections) None ranked.0, ap (weight (λ (i : SiteItem). w i.name.path)) (found_value _ made ranked.2))

  copied_adds : (config : Config) (path : List ℕ) (k : Option Kind) → weight (λ s. w s.path) (sites.copied config path k) ≤ w path
  copied_adds config path None = omega arith
  copied_adds config path (Some k) = omega arith

  -- nor do those of copied files
  pub copies_add : (config : Config) (files : List Placed) → weight (λ s. w s.path) (sites.copies config files) ≤ weight (λ f. w f.1.0) files
  copies_add config [] = omega arith
  copies_add config (f ∷ fs) =
      omega (arith, weight-append (λ (s : StaticFile). w s.path) (sites.copied config f.1.0 (as_copy f)) (sites.copies config fs), copied_adds config f.1.0 (as_copy f), copies_add config fs)

  pub files_placed : (config : Config) (drafts : Bool) (files : List File) → weight (λ f. w f.1.0) (map (placed config drafts) files) ≡ weight (λ f. w f.0) files
  files_placed config drafts files = weight-map (λ f. w f.1.0) (placed config drafts) files

-- there are no more items than files
pub items_few : (config : Config) (now : ℤ) (future : Bool) (files : List Placed) (made : List SiteItem) → sites.items config now future files ≡ Ok made → length made ≤ length files
items_few config now future files made e =
    omega (arith, items_by_add (λ path. 1) (by_strength config.defaults) config now future files made e, weight_length made, weight_length files)
