-- The title and the date of a document.
use Rattle.std.proofs.Common.{◌≡◌, ◌∙◌, refl, ap, sym, subst, ℕ, ℤ, Bool, true, false, List, codes, length, nat_lt, Option, Some, None, if◌then◌else◌}
use Rattle.std.specs.Option.{unwrap_or}
use Rattle.std.specs.Str.{bytes_eq}
use Rattle.site_base.specs.Plain.{Plain, nil, bool, text, hash, Pairs, get, set}
use Rattle.site_base.specs.View.{plain}
use Rattle.site_config.specs.Forms.{setting}
use Rattle.site_config.specs.declared.config.Config.{Config}
use Rattle.site_files.specs.Names.{extension, file_name, stem}
use Rattle.site_items.specs.Addresses.{collection_of, is_page, is_post, name_of}
use Rattle.site_items.specs.Dates.{date_value}
use Rattle.site_items.specs.Items.{categories, document_variables, id_of, names_value, tags, is_draft, slug_of, is_nil, kind_named, kind_variables, named, page_variables, placed, title_part, set_if, set_missing}
use Rattle.site_items.specs.Titles.{title}
use Rattle.site_items.specs.declared.kind.Kind.{Kind}
use Rattle.site_reader.specs.Lawful.{HasVariables, part_variables}
use Rattle.site_reader.specs.Neighbours.{between}
use Rattle.site_reader.specs.declared.site_item.SiteItem.{SiteItem}
use Rattle.liquid_values.specs.StrictOptions.{present}
use Rattle.feed_law.proofs.PairLaws.{other_set, same_set}
use Rattle.feed_law.specs.FeedPosts.{TitleLaw, MomentLaw}
use Rattle.feed_law.specs.FeedViews.{date_variable}

-- ---- What stands at a key behind other keys

module _ (x : List ℕ) where
  behind_if : (b : Bool) (k : List ℕ) (v : Plain) (ps : Pairs) → bytes_eq x k ≡ false → get x (set_if b k v ps) ≡ get x ps
  behind_if true k v ps other = other_set x k v other ps
  behind_if false k v ps other = refl

  behind_neighbours : (b : Bool) (previous next : Plain) (ps : Pairs) → bytes_eq x (codes "previous") ≡ false → bytes_eq x (codes "next") ≡ false → get x (between b previous next ps) ≡ get x ps
  behind_neighbours true previous next ps first second = other_set x (codes "previous") previous first (set (codes "next") next ps) ∙ other_set x (codes "next") next second ps
  behind_neighbours false previous next ps first second = refl

-- ---- A title that is set where it is missing

title_there : (o : Option Plain) (v : List ℕ) (ps : Pairs) → get (codes "title") ps ≡ o → (t : Plain) × (get (codes "title") (if is_nil (unwrap_or o nil) then set (codes "title") (text v) ps else ps) ≡ Some t) × (present t ≡ Some t)
title_there None v ps e = (text v, same_set (codes "title") (text v) ps, refl)
title_there (Some t) v ps e = by (is_nil t) refl
  where
    kept : (t : Plain) → is_nil t ≡ false → present t ≡ Some t
    kept nil none = cc
    kept _ none = refl

    by : (b : Bool) → is_nil t ≡ b → (w : Plain) × (get (codes "title") (if b then set (codes "title") (text v) ps else ps) ≡ Some w) × (present w ≡ Some w)
    by true is = (text v, same_set (codes "title") (text v) ps, refl)
    by false is = (t, e, kept t is)

-- ---- Documents

module _ (config : Config) (k : Kind) (path address : List ℕ) (moment : Option ℤ) (document : is_page k ≡ false) where
  module _ (above : Pairs) where
    variables_are : kind_variables config k path address moment above ≡ document_variables config k path address moment above
    variables_are = ap (λ (b : Bool). if b then page_variables path address above else document_variables config k path address moment above) document

    abbrev collected : Pairs
    collected = set (codes "collection") (text (name_of (collection_of config k))) above

    abbrev drafted : Pairs
    drafted = set_if (is_draft k) (codes "draft") (bool true) collected

    abbrev dated : Pairs
    dated = set (codes "date") (date_value config.timezone moment) drafted

    abbrev sorted : Pairs
    sorted = set_if (is_post k) (codes "categories") (names_value (categories k path above)) dated

    abbrev tagged : Pairs
    tagged = set (codes "tags") (names_value (tags above)) sorted

    abbrev id : Plain
    id = text (id_of address (slug_of above))

    date_is : get (codes "date") (document_variables config k path address moment above) ≡ Some (date_value config.timezone moment)
    date_is =
        other_set (codes "date") (codes "id") id refl tagged
        ∙ other_set (codes "date") (codes "tags") (names_value (tags above)) refl sorted
        ∙ behind_if (codes "date") (is_post k) (codes "categories") (names_value (categories k path above)) dated refl
        ∙ same_set (codes "date") (date_value config.timezone moment) drafted

    title_is : get (codes "title") (document_variables config k path address moment above) ≡ get (codes "title") above
    title_is =
        other_set (codes "title") (codes "id") id refl tagged
        ∙ other_set (codes "title") (codes "tags") (names_value (tags above)) refl sorted
        ∙ behind_if (codes "title") (is_post k) (codes "categories") (names_value (categories k path above)) dated refl
        ∙ other_set (codes "title") (codes "date") (date_value config.timezone moment) refl drafted
        ∙ behind_if (codes "title") (is_draft k) (codes "draft") (bool true) collected refl
        ∙ other_set (codes "title") (codes "collection") (text (name_of (collection_of config k))) refl above

  module _ (vars : Pairs) where
    abbrev with_path : Pairs
    with_path = set (codes "path") (text path) vars

    abbrev with_paths : Pairs
    with_paths = set (codes "relative_path") (text path) with_path

    abbrev with_url : Pairs
    with_url = set (codes "url") (text address) with_paths

    placed_title : get (codes "title") (placed path address vars) ≡ get (codes "title") vars
    placed_title =
        other_set (codes "title") (codes "ext") (text (extension (file_name path))) refl with_url
        ∙ other_set (codes "title") (codes "url") (text address) refl with_paths
        ∙ other_set (codes "title") (codes "relative_path") (text path) refl with_path
        ∙ other_set (codes "title") (codes "path") (text path) refl vars

module _ (config : Config) (i : SiteItem) (has : HasVariables config i) (document : is_page has.kind ≡ false) (first : i.name.part ≡ 0) where
  abbrev path : List ℕ
  path = i.name.path

  abbrev title_name : List ℕ
  title_name = title_part config.timezone has.kind (stem (file_name path))

  abbrev below : Pairs
  below = kind_named config.timezone has.kind (stem (file_name path)) has.given

  abbrev above : Pairs
  above = placed path has.address below

  abbrev made : Pairs
  made = between (nat_lt i.group (length config.collections)) has.previous has.next (kind_variables config has.kind path has.address has.moment above)

  variables_made : plain i.vars ≡ hash made
  variables_made = has.are ∙ ap (λ (part : ℕ). hash (part_variables part i.url made)) first

  below_is : below ≡ named title_name has.given
  below_is = ap (λ (b : Bool). if b then has.given else named title_name has.given) document

  abbrev slugged : Pairs
  slugged = set_missing (codes "slug") (text title_name) has.given

  -- what the title is, and that it is there
  titled : (t : Plain) × (get (codes "title") (named title_name has.given) ≡ Some t) × (present t ≡ Some t)
  titled = title_there (get (codes "title") slugged) (title title_name) slugged refl

  title_found : get (codes "title") made ≡ Some titled.0
  title_found =
      behind_neighbours (codes "title") (nat_lt i.group (length config.collections)) has.previous has.next (kind_variables config has.kind path has.address has.moment above) refl refl
      ∙ ap (get (codes "title")) (variables_are config has.kind path has.address has.moment document above)
      ∙ title_is config has.kind path has.address has.moment document above
      ∙ placed_title config has.kind path has.address has.moment document below
      ∙ ap (get (codes "title")) below_is
      ∙ titled.1

  pub title_set : present (setting (codes "title") (plain i.vars)) ≡ Some (setting (codes "title") (plain i.vars))
  title_set =
      let found : setting (codes "title") (plain i.vars) ≡ titled.0 = ap (setting (codes "title")) variables_made ∙ ap (λ (o : Option Plain). unwrap_or o nil) title_found in
      subst (λ (v : Plain). present v ≡ Some v) (sym found) titled.2

  pub date_set : (moment : ℤ) → has.moment ≡ Some moment → setting (codes "date") (plain i.vars) ≡ text (date_variable config.timezone moment)
  date_set moment is =
      ap (setting (codes "date")) variables_made
      ∙ ap (λ (o : Option Plain). unwrap_or o nil)
      (behind_neighbours (codes "date") (nat_lt i.group (length config.collections)) has.previous has.next (kind_variables config has.kind path has.address has.moment above) refl refl
      ∙ ap (get (codes "date")) (variables_are config has.kind path has.address has.moment document above)
      ∙ date_is config has.kind path has.address has.moment document above)
      ∙ ap (date_value config.timezone) is

pub title_law : TitleLaw
title_law config i has document first = title_set config i has document first

pub moment_law : MomentLaw
moment_law config i has moment document first is = date_set config i has document first moment is
