-- What a reader finds of an item that is only evaluated.
use Rattle.std.proofs.Common.{◌≡◌, ◌∙◌, refl, ap, ℕ, codes, Option}
use Rattle.std.specs.Option.{unwrap_or}
use Rattle.site_base.specs.Plain.{Plain, Pairs, nil, no_pairs, onto_pairs, pair, set, text}
use Rattle.site_config.specs.declared.config.Config.{Config}
use Rattle.site_items.specs.Defaults.{set_all}
use Rattle.site_reader.specs.declared.site.Site.{Site}
use Rattle.site_reader.specs.declared.site_item.SiteItem.{SiteItem}
use Rattle.site_variables.specs.Hashes.{documents_by_name}
use Rattle.site_variables.specs.Settings.{as_given, flags, lists, settings}
use Rattle.site_variables.specs.Variables.{own_variables, site_variable, variables}
use Rattle.site_world.specs.Sights.{body_of, variable_of}
use Rattle.read_record.specs.Queries.{Known}
use Rattle.feed_law.specs.FeedSites.{BareLaw}
use Rattle.feed_law.proofs.FeedSiteLaws.{all_set}
use Rattle.feed_law.proofs.PairLaws.{same_set}

-- ---- the variable `markdown_ext`

abbrev under : Site → Pairs
under site = set_all (documents_by_name site) site.config.all

-- the settings before it, and those after it
abbrev earlier : Site → Pairs
earlier site = set (codes "permalink") (text site.config.permalink) (set (codes "url") (text site.config.url) (set (codes "baseurl") (text site.config.baseurl) (under site)))

abbrev later : Config → Pairs
later config =
    onto_pairs (pair (codes "paginate_path") (text config.paginate_path) (pair (codes "excerpt_separator") (text config.excerpt_separator) no_pairs))
    (onto_pairs (lists config) (onto_pairs (flags config) (as_given config)))

markdown_is : (site : Site) → site_variable site (codes "markdown_ext") ≡ text site.config.markdown_ext
unfolding variables
markdown_is site =
    let names : Plain = text site.config.markdown_ext in
    ap (λ (o : Option Plain). unwrap_or o nil)
    (all_set (codes "markdown_ext") (own_variables site) (set_all (settings site.config) (under site)) refl
    ∙ all_set (codes "markdown_ext") (later site.config) (set (codes "markdown_ext") names (earlier site)) refl
    ∙ same_set (codes "markdown_ext") names (earlier site))

-- ---- the item

pub bare_law : BareLaw
bare_law files site reader known place i stands ext layout other = record {
  extension = text (codes ".xml");
  names = text site.config.markdown_ext;
  source = ap (λ (o : Option (ℕ × SiteItem)). Known (body_of o)) stands;
  ext = ap (λ (o : Option (ℕ × SiteItem)). Known (variable_of (codes "ext") o)) stands ∙ ap Known ext;
  markdown = ap Known (markdown_is site);
  other = other;
  bare = ap (λ (o : Option (ℕ × SiteItem)). Known (variable_of (codes "layout") o)) stands ∙ ap Known layout;
}
