-- How many bytes are copied of a file.
use Rattle.std.specs.Prelude.{ℕ, List, is_some, length, if◌then◌else◌}
use Rattle.site_items.specs.declared.static_file.StaticFile.{StaticFile}
use Rattle.site_world.specs.Named.{named}
use Rattle.site_world.specs.declared.named.Named.{Named}

-- all of them where its path is that of a copied file
abbrev pub copied_length : Named StaticFile → List ℕ × List ℕ → ℕ
copied_length copies file = if is_some (named copies file.0) then length file.1 else 0
