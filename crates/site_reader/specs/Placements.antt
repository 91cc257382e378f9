-- What files are under a configuration, as it is kept: their places, and what they are as items at every moment.
use Rattle.std.specs.Prelude.{◌≡◌, ℕ, Bool, List, All, IfSome, map, Option, Some, None, Ok}
use Rattle.std.specs.FinMap.{entries, from_sorted}
use Rattle.std.specs.Option.{option_copied}
use Rattle.site_base.specs.Chains.{◌>>=◌}
use Rattle.site_base.specs.PathMap.{as_map}
use Rattle.site_base.specs.Places.{Files}
use Rattle.site_base.specs.declared.path_map.PathMap.{PathMap}
use Rattle.site_config.specs.declared.config.Config.{Config}
use Rattle.site_config.specs.declared.scope.Scope.{Scope}
use Rattle.site_files.specs.Places.{place_of}
use Rattle.site_files.specs.declared.place.Place.{Place}
use Rattle.site_items.specs.Defaults.{by_strength}
use Rattle.site_items.specs.Items.{timeless}
use Rattle.site_items.specs.Matter.{outcome_of}
use Rattle.site_items.specs.Outcomes.{Outcome}
use Rattle.site_items.specs.declared.item.Rules.{Rules}
use Rattle.site_items.specs.declared.kind.Kind.{Kind}
use Rattle.site_items.specs.declared.timeless.Timeless.{Timeless}
use Rattle.site_reader.specs.Configured.{config_in}
use Rattle.site_reader.specs.Placing.{File}
use Rattle.site_reader.specs.declared.file_rules.FileRules.{FileRules}
use Rattle.site_reader.specs.declared.kept_files.KeptFiles.{KeptFiles}
use Rattle.site_reader.specs.declared.kept_item.KeptItem.{KeptItem}
use Rattle.site_reader.specs.declared.placed_file.PlacedFile.{PlacedFile}
use Rattle.site_reader.specs.declared.site_file.SiteFile.{SiteFile}
use Rattle.site_reader.specs.declared.told.Told.{Told}

-- the configuration that these bytes tell
abbrev pub Tells : Told → Config → Type 0
Tells told config = config_in (option_copied told.bytes) ≡ Ok config

-- the scopes of the configuration, by their strength
abbrev pub AreIts : Rules → Type 0
AreIts rules = map (λ s. s.now) rules.scopes.now ≡ by_strength rules.config.now.defaults

pub record AreRead (rules : FileRules) : Type 0 where
  pub config : Tells rules.told rules.rules.config.now
  pub scopes : AreIts rules.rules

abbrev pub place_under : Option (List ℕ) → Bool → List ℕ → Outcome Place
place_under told drafts path = config_in told >>= λ c. Ok (place_of c drafts path)

abbrev pub timeless_under : Option (List ℕ) → Kind → List ℕ → List ℕ → Outcome Timeless
timeless_under told k path bytes = config_in told >>= λ c. timeless c (by_strength c.defaults) k path bytes

abbrev pub IsMade : Option (List ℕ) → List ℕ → List ℕ → Option KeptItem → Type 0
IsMade told path bytes None = Unit {0}
IsMade told path bytes (Some item) = timeless_under told item.kind path bytes ≡ outcome_of item.made

-- a kept file is what it is at this path under the configuration of these bytes
pub record IsPlaced (told : Option (List ℕ)) (drafts : Bool) (path : List ℕ) (file : SiteFile) : Type 0 where
  pub place : place_under told drafts path ≡ Ok file.place
  pub item : IsMade told path file.file file.item

abbrev pub IsPlacedBy : Told → List ℕ → SiteFile → Type 0
IsPlacedBy told path file = IsPlaced (option_copied told.bytes) told.drafts path file

-- ---- all files that are kept

-- a path with its file
abbrev pub KeptEntry : Type 0
KeptEntry = List ℕ × SiteFile

abbrev pub ArePlaced : Option (List ℕ) → Bool → List KeptEntry → Type 0
ArePlaced told drafts files = All (λ e. IsPlaced told drafts e.0 e.1) files

-- each is what it is under the one configuration
abbrev pub IsSound : KeptFiles → Type 0
IsSound kept = ArePlaced kept.told kept.drafts (entries (as_map kept.files))

-- that configuration is this one
pub record AreUnder (told : Told) (kept : KeptFiles) : Type 0 where
  pub bytes : kept.told ≡ option_copied told.bytes
  pub drafts : kept.drafts ≡ told.drafts

-- their bytes alone
abbrev pub bytes_at : KeptEntry → File
bytes_at e = (e.0, e.1.file)

abbrev pub bytes_in : PathMap SiteFile → Files
bytes_in files = from_sorted (map bytes_at (entries (as_map files)))

-- ---- files with their places, of which something may be kept

-- such a file, as it is kept
abbrev pub as_kept : PlacedFile → KeptEntry
as_kept file = (file.path.now, record { file = file.content; place = file.place; item = option_copied file.kept })

-- what is kept of it is what it is under this configuration
abbrev pub IsKnown : Config → List Scope → PlacedFile → Type 0
IsKnown config scopes file = IfSome file.kept (λ item. timeless config scopes item.now.kind file.path.now file.content ≡ outcome_of item.now.made)

abbrev pub AreKnown : Config → List Scope → List PlacedFile → Type 0
AreKnown config scopes files = All (IsKnown config scopes) files
