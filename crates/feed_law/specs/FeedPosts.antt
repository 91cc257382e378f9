-- Of a post of a lawful site, what its feed rests on: its title and its date, by the site's variables.
use Rattle.std.specs.Prelude.{◌≡◌, ℤ, false, codes, Some}
use Rattle.site_base.specs.Plain.{text}
use Rattle.site_base.specs.View.{plain}
use Rattle.site_config.specs.Forms.{setting}
use Rattle.site_config.specs.declared.config.Config.{Config}
use Rattle.site_items.specs.Addresses.{is_page}
use Rattle.site_reader.specs.Lawful.{HasVariables}
use Rattle.site_reader.specs.declared.site_item.SiteItem.{SiteItem}
use Rattle.liquid_values.specs.StrictOptions.{present}
use Rattle.feed_law.specs.FeedViews.{date_variable}

-- the title of a document is there
abbrev pub TitleLaw : Type 0
TitleLaw = (config : Config) (i : SiteItem) (has : HasVariables config i) → is_page has.kind ≡ false → i.name.part ≡ 0 → present (setting (codes "title") (plain i.vars)) ≡ Some (setting (codes "title") (plain i.vars))

-- and its date is that of its moment
abbrev pub MomentLaw : Type 0
MomentLaw =
    (config : Config) (i : SiteItem) (has : HasVariables config i) (moment : ℤ) → is_page has.kind ≡ false → i.name.part ≡ 0 → has.moment ≡ Some moment →
    setting (codes "date") (plain i.vars) ≡ text (date_variable config.timezone moment)
