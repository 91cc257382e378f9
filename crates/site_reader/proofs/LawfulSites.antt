-- A site is lawful with its files.
use Rattle.std.proofs.Common.{◌≡◌, ℕ, ◌+◌, ◌*◌, ◌≤◌, Bool, true, List, length, map, All, Option, Some, None, Result, Ok, Err, arith, ap, subst, ◌∙◌}
use Rattle.std.specs.FinMap.{contains_key, entries, len, len-entries}
use Rattle.std.specs.Prelude.{ℤ, IfOk, MatchResult}
use Rattle.std.proofs.lemmas.List.Elements.{All-from_recursion}
use Rattle.site_base.specs.Chains.{◌>>=◌}
use Rattle.site_base.specs.Places.{Files}
use Rattle.site_base.specs.declared.settings.Settings.{Settings}
use Rattle.site_config.specs.declared.config.Config.{Config}
use Rattle.site_dates.specs.Moment.{IsMoment}
use Rattle.site_items.specs.Defaults.{by_strength}
use Rattle.site_items.specs.declared.static_file.StaticFile.{StaticFile}
use Rattle.site_reader.specs.Archived.{HasArchives, IsArchived}
use Rattle.site_reader.specs.Data.{data_tree}
use Rattle.site_reader.specs.Found.{IsFirst}
use Rattle.site_reader.specs.Lawful.{Differ, HasVariables, IsLawful, KnowsItself, most_made}
use Rattle.site_reader.specs.Generating as generating
use Rattle.site_reader.specs.Paginating.{paginated}
use Rattle.site_reader.specs.Placing.{Placed, builds_drafts, builds_future, placed}
use Rattle.site_reader.specs.Sites as sites
use Rattle.site_reader.specs.declared.site.Site.{Site}
use Rattle.site_reader.specs.declared.site_error.SiteError.{SiteError}
use Rattle.site_reader.specs.declared.site_item.SiteItem.{SiteItem}
use Rattle.source_tree.specs.Limits.{CanBeHeld, most_files}
use Rattle.site_reader.proofs.ConfigurationLaws.{IsFormed, config_formed, sized}
use Rattle.site_reader.proofs.Differing.{differ, distinct, distinct_differ, each_named, file_held, file_once, named}
use Rattle.site_reader.proofs.IncludeLaws.{includes_differ}
use Rattle.site_reader.proofs.ItemLaws.{copies_add, files_placed, items_by_add}
use Rattle.site_reader.proofs.LayoutLaws.{layouts_differ, layouts_have}
use Rattle.site_reader.proofs.GeneratedItems.{AreGenerated, generated_items}
use Rattle.site_reader.proofs.PagedItems.{ArePaged, paged_items}
use Rattle.site_reader.proofs.PostLaws.{posts_first}
use Rattle.site_reader.proofs.VariableLaws.{AreOwn, items_know}
use Rattle.site_reader.proofs.Weights.{found_before, found_value, weight, weight_length}

-- ---- the parts of a site

-- what was found in the files for each part of a site
pub record Parts (config : Config) (now : ℤ) (future : Bool) (files : List Placed) (made : Site) : Type 0 where
  pub config_is : config ≡ made.config
  pub read : List SiteItem
  pub items : sites.items config now future files ≡ Ok read
  pub paged : List SiteItem
  pub with_pages : paginated config read ≡ Ok paged
  pub generated : generating.generated config (sites.copies config files) paged ≡ Ok made.items
  pub layouts : sites.layouts files ≡ Ok made.layouts
  pub includes : sites.includes files ≡ Ok made.includes
  pub copies : sites.copies config files ≡ made.statics
  pub moment : now ≡ made.moment

clash_free : (site : Site) (clash : Option (List ℕ)) (made : Site) → sites.no_clash site clash ≡ Ok made → site ≡ made
clash_free site None made e = found_value site made e
clash_free site (Some path) made e = absurd (cc (e))

pub parts : (config : Config) (now : ℤ) (future : Bool) (files : List Placed) (made : Site) → sites.placed_site config now future files ≡ Ok made → Parts config now future files made
parts config now future files made e =
    let tree = found_before (data_tree files) _ made e in
    let layouts = found_before (sites.layouts files) _ made tree.2 in
    let includes = found_before (sites.includes files) _ made layouts.2 in
    let items = found_before (sites.items config now future files) _ made includes.2 in
    let all = found_before (paginated config items.0 >>= generating.generated config (sites.copies config files)) _ made items.2 in
    let paged = found_before (paginated config items.0) (generating.generated config (sites.copies config files)) all.0 all.1 in
    let is = clash_free _ _ made all.2 in
    record {
      config_is = ap (λ (s : Site). s.config) is;
      read = items.0;
      items = items.1;
      paged = paged.0;
      with_pages = paged.1;
      generated = paged.2 ∙ ap (λ (s : Site). Ok s.items) is;
      layouts = layouts.1 ∙ ap (λ (s : Site). Ok s.layouts) is;
      includes = includes.1 ∙ ap (λ (s : Site). Ok s.includes) is;
      copies = ap (λ (s : Site). s.statics) is;
      moment = ap (λ (s : Site). s.moment) is;
    }

-- ---- a site under a configuration

-- what is needed of the parts of a site to tell that it is lawful
pub record Given (files : Files) (now : ℤ) (settings : Settings) (config : Config) (made : Site) : Type 0 where
  pub config_read : sites.config files ≡ Ok config
  pub moment : IsMoment now
  pub read : sites.site_with files now settings config ≡ Ok made

module _ {files : Files} {now : ℤ} {settings : Settings} {config : Config} {made : Site} (given : Given files now settings config made) where
  pub here : Parts config now (builds_future config settings) (map (placed config (builds_drafts config settings)) (entries files)) made
  here = parts config now (builds_future config settings) (map (placed config (builds_drafts config settings)) (entries files)) made given.read

  -- the items before pagination weigh no more than files
  items_weigh : (w : List ℕ → ℕ) → weight (λ i. w i.name.path) here.read ≤ weight (λ f. w f.0) (entries files)
  items_weigh w =
      omega (
        arith,
        items_by_add w (by_strength config.defaults) config now (builds_future config settings) (map (placed config (builds_drafts config settings)) (entries files)) here.read here.items,
        files_placed w config (builds_drafts config settings) (entries files),
      )

  copies_weigh : (w : List ℕ → ℕ) → weight (λ s. w s.path) made.statics ≤ weight (λ f. w f.0) (entries files)
  copies_weigh w =
      omega (
        arith,
        copies_add w config (map (placed config (builds_drafts config settings)) (entries files)),
        ap (weight (λ (s : StaticFile). w s.path)) here.copies,
        files_placed w config (builds_drafts config settings) (entries files),
      )

  copies_differ : Differ (λ (s : StaticFile). s.path) made.statics
  copies_differ = differ (λ s. s.path) made.statics (λ q. omega (arith, copies_weigh (named q), file_once files q))

  copies_held : All (λ (s : StaticFile). contains_key files s.path ≡ true) made.statics
  copies_held =
      All-from_recursion (λ s. contains_key files s.path ≡ true) made.statics
      (each_named (λ s. s.path) (λ path. contains_key files path ≡ true) made.statics (λ q le. file_held files q (omega (arith, le, copies_weigh (named q)))))

  formed : IsFormed made.config
  formed = subst IsFormed here.config_is (config_formed files config given.config_read)

  own : AreOwn config here.read
  own = items_know config (posts_first config (config_formed files config given.config_read)) (by_strength config.defaults) now (builds_drafts config settings) (builds_future config settings) (entries files) here.read here.items

  pub with_pages : ArePaged config here.read here.paged
  with_pages =
      let paths = distinct (λ (i : SiteItem). i.name.path) here.read (λ q. omega (arith, items_weigh (named q), file_once files q)) in
      paged_items config here.read here.paged (sized (config_formed files config given.config_read)) paths own here.with_pages

  whole : AreGenerated config here.paged made.items
  whole = generated_items config (sites.copies config (map (placed config (builds_drafts config settings)) (entries files))) here.paged made.items with_pages.apart with_pages.other with_pages.has here.generated

  items_have : All (λ (item : SiteItem). KnowsItself item × HasVariables config item) made.items
  items_have = All-from_recursion (λ (item : SiteItem). KnowsItself item × HasVariables config item) made.items whole.has

  lawful : IsLawful files made
  lawful = record {
    few = omega (arith, whole.few, with_pages.few, weight_length here.read, weight_length (entries files), len-entries files, items_weigh (λ path. 1));
    items_differ = distinct_differ (λ (i : SiteItem). i.name) made.items whole.apart;
    layouts_differ = layouts_differ (map (placed config (builds_drafts config settings)) (entries files)) made.layouts here.layouts;
    includes_differ = includes_differ files config (builds_drafts config settings) made.includes here.includes;
    items_known = λ place other inside. (items_have place other inside).0;
    variables = subst (λ c. All (HasVariables c) made.items) here.config_is (λ place other inside. (items_have place other inside).1);
    layout_variables = layouts_have (map (placed config (builds_drafts config settings)) (entries files)) made.layouts here.layouts;
    copies_differ = copies_differ;
    copies_held = copies_held;
    moment = subst IsMoment here.moment given.moment;
    forms = formed.forms;
    configuration = formed.says;
  }

  archived : IsArchived made
  archived word = subst (λ (c : Config). HasArchives c made.items word) here.config_is (whole.archives word)

pub read_lawfully : (files : Files) (now : ℤ) (settings : Settings) (config : Config) (read : Result Site SiteError) → sites.config files ≡ Ok config → IsMoment now
    → MatchResult read (λ made. sites.site_with files now settings config ≡ Ok made) (IsFirst (sites.site_with files now settings config)) → IfOk read (IsLawful files)
read_lawfully files now settings config (Ok made) config_read moment is = lawful (record { config_read = config_read; moment = moment; read = is })
read_lawfully files now settings config (Err error) config_read moment is = tt

pub read_archived : (files : Files) (now : ℤ) (settings : Settings) (config : Config) (read : Result Site SiteError) → sites.config files ≡ Ok config → IsMoment now
    → MatchResult read (λ made. sites.site_with files now settings config ≡ Ok made) (IsFirst (sites.site_with files now settings config)) → IfOk read IsArchived
read_archived files now settings config (Ok made) config_read moment is = archived (record { config_read = config_read; moment = moment; read = is })
read_archived files now settings config (Err error) config_read moment is = tt

-- what is held passes no limit
pub few_under : (files : Files) (read : Result Site SiteError) → len files ≤ most_files → IfOk read (IsLawful files) → IfOk read (λ made. length made.items ≤ 2 * most_files + most_made)
few_under files (Ok made) within is = omega (arith, within, is.few)
few_under files (Err error) within is = tt

pub few_held : (files : Files) (read : Result Site SiteError) → IfOk read (λ _. CanBeHeld files) → IfOk read (IsLawful files) → IfOk read (λ made. length made.items ≤ 2 * most_files + most_made)
few_held files (Ok made) held is = few_under files (Ok made) held.few is
few_held files (Err error) held is = tt
