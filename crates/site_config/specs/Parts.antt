-- A few fields of a configuration at a time.
use Rattle.std.specs.Prelude.{◌++◌, [], ◌∷◌, codes}
use Rattle.site_base.specs.Plain.{Plain}
use Rattle.site_config.specs.Forms.{setting}
use Rattle.site_config.specs.Config.{text_or, optional_text, texts_or, flag, excluded, collections_of, scopes_of}
use Rattle.site_config.specs.declared.parts.Addresses.{Addresses}
use Rattle.site_config.specs.declared.parts.Choices.{Choices}
use Rattle.site_config.specs.declared.parts.Documents.{Documents}
use Rattle.site_config.specs.declared.parts.Breaks.{Breaks}
use Rattle.site_config.specs.declared.parts.Generated.{Generated}

abbrev pub addresses : Plain → Addresses
addresses all = record {
  baseurl = text_or [] (setting (codes "baseurl") all);
  url = text_or [] (setting (codes "url") all);
  permalink = text_or (codes "date") (setting (codes "permalink") all);
  markdown_ext = text_or (codes "markdown,mkdown,mkdn,mkd,md") (setting (codes "markdown_ext") all);
}

abbrev pub choices : Plain → Choices
choices all = record {
  include = texts_or (codes ".htaccess" ∷ []) (setting (codes "include") all);
  exclude = excluded ++ texts_or [] (setting (codes "exclude") all);
  keep_files = texts_or (codes ".git" ∷ codes ".svn" ∷ []) (setting (codes "keep_files") all);
}

abbrev pub documents : Plain → Documents
documents all = record {
  collections = collections_of (setting (codes "collections") all);
  defaults = scopes_of (setting (codes "defaults") all);
}

abbrev pub breaks : Plain → Breaks
breaks all = record {
  paginate_path = text_or (codes "/page:num") (setting (codes "paginate_path") all);
  excerpt_separator = text_or (10 ∷ 10 ∷ []) (setting (codes "excerpt_separator") all);
}

abbrev pub generated : Plain → Generated
generated all = record {
  make_archives = texts_or [] (setting (codes "make_archives") all);
  archive_layout = optional_text (setting (codes "archive_layout") all);
  make_feed = flag (setting (codes "make_feed") all);
  make_sitemap = flag (setting (codes "make_sitemap") all);
}
