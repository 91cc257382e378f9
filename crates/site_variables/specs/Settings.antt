-- The keys of a configuration that have a meaning, each with its value or its default. After Jekyll 4's manual, "Configuration Options" and "Liquid Options"; the keys of archives, of the feed and of the sitemap are this program's own.
use Rattle.std.specs.Prelude.{ℕ, false, List, codes, if◌then◌else◌}
use Rattle.site_base.specs.Plain.{Plain, nil, bool, text, list, hash, no_items, Pairs, no_pairs, pair, onto_pairs}
use Rattle.site_config.specs.Forms.{setting}
use Rattle.site_config.specs.declared.config.Config.{Config}
use Rattle.site_items.specs.Items.{is_nil}
use Rattle.site_items.specs.Labels.{text_items}

abbrev pub texts : Config → Pairs
texts config =
    pair (codes "baseurl") (text config.baseurl)
    (pair (codes "url") (text config.url)
    (pair (codes "permalink") (text config.permalink)
    (pair (codes "markdown_ext") (text config.markdown_ext)
    (pair (codes "paginate_path") (text config.paginate_path)
    (pair (codes "excerpt_separator") (text config.excerpt_separator) no_pairs)))))

abbrev pub lists : Config → Pairs
lists config =
    pair (codes "include") (list (text_items config.include))
    (pair (codes "exclude") (list (text_items config.exclude))
    (pair (codes "keep_files") (list (text_items config.keep_files)) no_pairs))

abbrev pub flags : Config → Pairs
flags config =
    pair (codes "future") (bool config.future)
    (pair (codes "unpublished") (bool config.unpublished)
    (pair (codes "show_drafts") (bool config.show_drafts)
    (pair (codes "make_feed") (bool config.make_feed)
    (pair (codes "make_sitemap") (bool config.make_sitemap) no_pairs))))

-- what a key has in the configuration's mapping, and where that is nil another value
abbrev pub given_or : Plain → Config → List ℕ → Plain
given_or other config key = let v = setting key (hash config.all) in if is_nil v then other else v

-- Liquid passes over what is not defined
abbrev pub lenient : Pairs
lenient = pair (codes "strict_variables") (bool false) (pair (codes "strict_filters") (bool false) no_pairs)

-- keys whose values stand as they are given; `paginate` is nil where it is off, and `archive_layout` where there is none
abbrev pub as_given : Config → Pairs
as_given config =
    pair (codes "defaults") (given_or (list no_items) config (codes "defaults"))
    (pair (codes "paginate") (given_or nil config (codes "paginate"))
    (pair (codes "timezone") (given_or (text (codes "UTC")) config (codes "timezone"))
    (pair (codes "liquid") (given_or (hash lenient) config (codes "liquid"))
    (pair (codes "make_archives") (given_or (list no_items) config (codes "make_archives"))
    (pair (codes "archive_layout") (given_or nil config (codes "archive_layout")) no_pairs)))))

-- all keys of the table but `collections`, which a site has of itself
abbrev pub settings : Config → Pairs
settings config = onto_pairs (texts config) (onto_pairs (lists config) (onto_pairs (flags config) (as_given config)))
