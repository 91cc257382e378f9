-- How the items of a site come of the files that it was read from.
use Rattle.std.proofs.Common.{◌≡◌, ◌≢◌, ◌∙◌, sym, ap, ℤ, List, Ok}
use Rattle.std.specs.List.{AllByRecursion}
use Rattle.site_base.specs.Chains.{◌>>=◌}
use Rattle.site_base.specs.Places.{Files}
use Rattle.site_base.specs.declared.settings.Settings.{Settings}
use Rattle.site_config.specs.declared.config.Config.{Config}
use Rattle.site_dates.specs.Moment.{IsMoment}
use Rattle.site_reader.specs.Found.{Found}
use Rattle.site_reader.specs.Generating.{generated, with_archives_and_feed}
use Rattle.site_reader.specs.Paginating.{paginated}
use Rattle.site_reader.specs.Sites as sites
use Rattle.feed_law.specs.Unmapped.{unmapped, unmapped_with}
use Rattle.site_reader.specs.declared.site.Site.{Site}
use Rattle.site_reader.specs.declared.site_item.SiteItem.{SiteItem}
use Rattle.feed_law.proofs.GeneratedLaws.{IsGenerated, is_generated}
use Rattle.site_reader.proofs.LawfulSites.{Given, here, with_pages}
use Rattle.site_reader.proofs.Weights.{found_before}

-- the items of a site, from those that its files make by themselves
pub record ComesOf (files : Files) (now : ℤ) (settings : Settings) (s : Site) : Type 0 where
  pub paged : List SiteItem
  pub wholes : AllByRecursion (λ (i : SiteItem). i.name.part ≢ 1) paged
  pub made : IsGenerated s.config s.statics paged s.items
  pub before : unmapped files now settings ≡ Ok made.before

module _ {files : Files} {now : ℤ} {settings : Settings} {config : Config} {s : Site} (given : Given files now settings config s) where
  comes : ComesOf files now settings s
  comes =
      let parts = here given in
      let is = is_generated s.config s.statics parts.paged s.items ((λ i. generated (sym parts.config_is i) (sym parts.copies i) parts.paged) ∙ parts.generated) in
      record {
        paged = parts.paged;
        wholes = (with_pages given).other;
        made = is;
        before =
            ap (λ (found : Found Config). found >>= unmapped_with files now settings) given.config_read
            ∙ ap (λ (found : Found (List SiteItem)). found >>= paginated config >>= with_archives_and_feed config) parts.items
            ∙ ap (λ (found : Found (List SiteItem)). found >>= with_archives_and_feed config) parts.with_pages
            ∙ (λ i. with_archives_and_feed (parts.config_is i) parts.paged)
            ∙ is.first;
      }

pub comes_of : (files : Files) (now : ℤ) (settings : Settings) (s : Site) → IsMoment now → sites.site files now settings ≡ Ok s → ComesOf files now settings s
unfolding sites.site
comes_of files now settings s moment e =
    let config = found_before (sites.config files) (sites.site_with files now settings) s e in
    comes (record { config_read = config.1; moment = moment; read = config.2 })
