-- An item whose address is sought: the parts of its reading, by what is known of it.
use Rattle.std.specs.Prelude.{ℕ, ℤ, List, Option, codes, map}
use Rattle.site_base.specs.Chains.{◌>>=◌}
use Rattle.permalinks.specs.Placeholders.{Values}
use Rattle.permalinks.specs.Url.{url_by}
use Rattle.site_base.specs.Plain.{Pairs, key_list}
use Rattle.site_files.specs.Names.{file_name, stem}
use Rattle.site_items.specs.Addresses.{found_url, stands_for, template}
use Rattle.site_items.specs.Defaults.{variable}
use Rattle.site_items.specs.Items.{at, categories, item, item_at, kind_variables, matter_timeless, placed, slug_of, timeless, unless_later}
use Rattle.site_items.specs.Outcomes.{Outcome}
use Rattle.site_items.specs.declared.addresses.Sought.{Sought}
use Rattle.site_items.specs.declared.item.Item.{Item}
use Rattle.site_items.specs.declared.item.Rules.{Rules}
use Rattle.site_items.specs.declared.kind.Kind.{Kind}
use Rattle.site_items.specs.declared.matter.Matter.{Matter}
use Rattle.site_items.specs.declared.timeless.Timeless.{Timeless}

abbrev pub template_of : Sought → Pairs → Outcome (List ℕ)
template_of item vars = template item.config.now item.ext.now (stem (file_name item.path.now)) item.kind (variable (codes "permalink") vars)

-- what the placeholders stand for
abbrev pub placeholders : Sought → List ℕ → List (List ℕ) → Values
placeholders item slug_text categories = stands_for item.config.now item.kind item.path.now item.ext.now item.moment slug_text categories

abbrev pub address_of : Sought → List ℕ → Pairs → Outcome (List ℕ)
address_of item t vars = found_url (url_by t (placeholders item (slug_of vars) (key_list (categories item.kind item.path.now vars))))

abbrev pub all_variables : Sought → List ℕ → Pairs → Pairs
all_variables item address vars = kind_variables item.config.now item.kind item.path.now address item.moment (placed item.path.now address vars)

abbrev pub sought_item : Sought → Pairs → List ℕ → Outcome Item
sought_item item vars body = template_of item vars >>= λ t. address_of item t vars >>= item_at item.config.now item.kind item.path.now item.moment vars body item.ext.now

-- the parts of the reading of a file, by what holds for all items
abbrev pub ruled_item : Rules → Kind → List ℕ → List ℕ → Outcome (Option Item)
ruled_item rules k path bytes = item rules.config.now (map (λ s. s.now) rules.scopes.now) rules.now rules.future k path bytes

abbrev pub ruled_matter : Rules → Kind → List ℕ → Matter → Outcome Timeless
ruled_matter rules k path m = matter_timeless rules.config.now (map (λ s. s.now) rules.scopes.now) k path m

abbrev pub ruled_timeless : Rules → Kind → List ℕ → List ℕ → Outcome Timeless
ruled_timeless rules k path bytes = timeless rules.config.now (map (λ s. s.now) rules.scopes.now) k path bytes

abbrev pub ruled_at : Rules → Kind → List ℕ → Timeless → Outcome (Option Item)
ruled_at rules k path made = at rules.now rules.future rules.config.now k path made

abbrev pub ruled_now : Rules → Kind → List ℕ → Outcome Timeless → Outcome (Option Item)
ruled_now rules k path found = found >>= ruled_at rules k path

abbrev pub ruled_later : Rules → Option ℤ → Outcome Item → Outcome (Option Item)
ruled_later rules moment found = unless_later rules.now rules.future moment found
