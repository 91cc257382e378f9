-- The first of the paths that a site writes that is a folder of another.
use Rattle.std.specs.Prelude.{ℕ, List, Option}
use Rattle.std.specs.Map.{keys_of}
use Rattle.site_base.specs.Clash.{first_folder}
use Rattle.site_config.specs.declared.config.Config.{Config}
use Rattle.site_items.specs.declared.static_file.StaticFile.{StaticFile}
use Rattle.site_reader.specs.Winners.{winners}
use Rattle.site_reader.specs.declared.site_item.SiteItem.{SiteItem}

abbrev pub first_clash : Config → List SiteItem → List StaticFile → Option (List ℕ)
first_clash config items copies = first_folder (keys_of (winners config items copies))
