-- The items of a site before its sitemap, which lists them.
use Rattle.std.specs.Prelude.{ℤ, List, map}
use Rattle.std.specs.FinMap.{entries}
use Rattle.site_base.specs.Chains.{◌>>=◌}
use Rattle.site_base.specs.Places.{Files}
use Rattle.site_base.specs.declared.settings.Settings.{Settings}
use Rattle.site_config.specs.declared.config.Config.{Config}
use Rattle.site_reader.specs.Found.{Found}
use Rattle.site_reader.specs.Generating.{with_archives_and_feed}
use Rattle.site_reader.specs.Paginating.{paginated}
use Rattle.site_reader.specs.Placing.{Placed, builds_drafts, builds_future, placed}
use Rattle.site_reader.specs.Sites as sites
use Rattle.site_reader.specs.declared.site_item.SiteItem.{SiteItem}

-- the files in their places
abbrev pub places : Files → Settings → Config → List Placed
places files settings c = map (placed c (builds_drafts c settings)) (entries files)

abbrev pub unmapped_with : Files → ℤ → Settings → Config → Found (List SiteItem)
unmapped_with files now settings c = sites.items c now (builds_future c settings) (places files settings c) >>= paginated c >>= with_archives_and_feed c

-- the items that these files make, with all pages that are made besides but the sitemap
abbrev pub unmapped : Files → ℤ → Settings → Found (List SiteItem)
unmapped files now settings = sites.config files >>= unmapped_with files now settings
