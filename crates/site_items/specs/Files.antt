-- What files are that are no items: layouts, includes, and files that are copied. After Jekyll 4's manual, "Directory Structure".
use Rattle.std.specs.Prelude.{ℕ, List, ◌∷◌, codes, Option, Some, None, is_some, Ok, Err, if◌then◌else◌}
use Rattle.std.specs.Str.{is_utf8}
use Rattle.site_base.specs.Chains.{◌>>=◌}
use Rattle.site_base.specs.Path.{path_refusal}
use Rattle.site_base.specs.declared.faults.FaultKind.TheVariants as fault
use Rattle.site_base.specs.declared.value.Value.TheVariants as value
use Rattle.site_config.specs.declared.config.Config.{Config}
use Rattle.site_items.specs.Addresses.{behind, has_output, without_extension}
use Rattle.site_items.specs.Matter.{matter}
use Rattle.site_items.specs.Outcomes.{Outcome}
use Rattle.site_items.specs.declared.include_file.IncludeFile.{IncludeFile}
use Rattle.site_items.specs.declared.kind.Kind.{Kind}
use Rattle.site_items.specs.declared.kind.Kind.TheVariants as kind
use Rattle.site_items.specs.declared.layout_file.LayoutFile.{LayoutFile}
use Rattle.site_items.specs.declared.matter.Matter.{Matter}
use Rattle.site_items.specs.declared.static_file.StaticFile.{StaticFile}

-- a layout is named by its path below `_layouts`, without its extension
abbrev pub layout_name : List ℕ → List ℕ
layout_name path = without_extension (behind (codes "_layouts/") path)

abbrev pub layout_with : List ℕ → Matter → LayoutFile
layout_with path m = record { name = layout_name path; path = path; vars = value.Hash m.vars; body = m.body }

-- the layout that a file is: its front matter's variables, and what stands behind
abbrev pub layout : List ℕ → List ℕ → Outcome LayoutFile
layout path bytes = matter bytes >>= λ m. Ok (layout_with path m)

-- an include is named by its path below `_includes`, and is all of its text
abbrev pub include : List ℕ → List ℕ → Outcome IncludeFile
include path bytes = if is_utf8 bytes then Ok (record { name = behind (codes "_includes/") path; body = bytes }) else Err (0, fault.NotUtf8)

-- a file in a collection's folder stands at its path without the folder's `_`
abbrev pub shown_path : Kind → List ℕ → List ℕ
shown_path (kind.Document n) path = behind (codes "_") path
shown_path other path = path

abbrev pub path_or_none : List ℕ → Option (List ℕ)
path_or_none path = if is_some (path_refusal path) then None else Some path

-- a file that is copied, in the folder of a collection or elsewhere; it is written where an item there would be
abbrev pub static_file : Config → Kind → List ℕ → StaticFile
static_file config k path = record {
  path = path;
  url = 47 ∷ shown_path k path;
  dest = if has_output config k then path_or_none (shown_path k path) else None;
}
