-- A configuration put together of its parts.
use Rattle.std.proofs.Common.{◌≡◌, ℕ, ℤ, Bool, ap, ◌∙◌}
use Rattle.std.specs.Prelude.{Option, codes}
use Rattle.site_base.specs.Plain.{Plain, Pairs}
use Rattle.site_config.specs.Forms.{setting}
use Rattle.site_config.specs.Config.{config, count_of, offset_of, flag, pairs_in}
use Rattle.site_config.specs.Parts.{addresses, choices, documents, breaks, generated}
use Rattle.site_config.specs.declared.config.Config.{Config}
use Rattle.site_config.specs.declared.parts.Addresses.{Addresses}
use Rattle.site_config.specs.declared.parts.Choices.{Choices}
use Rattle.site_config.specs.declared.parts.Documents.{Documents}
use Rattle.site_config.specs.declared.parts.Breaks.{Breaks}
use Rattle.site_config.specs.declared.parts.Generated.{Generated}

abbrev pub made : Addresses → Choices → Documents → Breaks → Generated → Option ℕ → ℤ → Bool → Bool → Bool → Pairs → Config
made a s d b r paginate timezone future unpublished show_drafts all = record {
  baseurl = a.baseurl;
  url = a.url;
  permalink = a.permalink;
  markdown_ext = a.markdown_ext;
  include = s.include;
  exclude = s.exclude;
  keep_files = s.keep_files;
  collections = d.collections;
  defaults = d.defaults;
  paginate = paginate;
  paginate_path = b.paginate_path;
  excerpt_separator = b.excerpt_separator;
  timezone = timezone;
  future = future;
  unpublished = unpublished;
  show_drafts = show_drafts;
  make_archives = r.make_archives;
  archive_layout = r.archive_layout;
  make_feed = r.make_feed;
  make_sitemap = r.make_sitemap;
  all = all;
}

pub of_parts : (v : Plain) (a : Addresses) (s : Choices) (d : Documents) (b : Breaks) (r : Generated) (paginate : Option ℕ) (timezone : ℤ) (future unpublished show_drafts : Bool) (all : Pairs)
    → a ≡ addresses v → s ≡ choices v → d ≡ documents v → b ≡ breaks v → r ≡ generated v
    → paginate ≡ count_of (setting (codes "paginate") v) → timezone ≡ offset_of (setting (codes "timezone") v)
    → future ≡ flag (setting (codes "future") v) → unpublished ≡ flag (setting (codes "unpublished") v) → show_drafts ≡ flag (setting (codes "show_drafts") v) → all ≡ pairs_in v
    → made a s d b r paginate timezone future unpublished show_drafts all ≡ config v
of_parts v a s d b r paginate timezone future unpublished show_drafts all e1 e2 e3 e4 e5 e6 e7 e8 e9 e10 e11 =
    ap (λ (x : Addresses). made x s d b r paginate timezone future unpublished show_drafts all) e1
    ∙ ap (λ (x : Choices). made (addresses v) x d b r paginate timezone future unpublished show_drafts all) e2
    ∙ ap (λ (x : Documents). made (addresses v) (choices v) x b r paginate timezone future unpublished show_drafts all) e3
    ∙ ap (λ (x : Breaks). made (addresses v) (choices v) (documents v) x r paginate timezone future unpublished show_drafts all) e4
    ∙ ap (λ (x : Generated). made (addresses v) (choices v) (documents v) (breaks v) x paginate timezone future unpublished show_drafts all) e5
    ∙ ap (λ (x : Option ℕ). made (addresses v) (choices v) (documents v) (breaks v) (generated v) x timezone future unpublished show_drafts all) e6
    ∙ ap (λ (x : ℤ). made (addresses v) (choices v) (documents v) (breaks v) (generated v) (count_of (setting (codes "paginate") v)) x future unpublished show_drafts all) e7
    ∙ ap (λ (x : Bool). made (addresses v) (choices v) (documents v) (breaks v) (generated v) (count_of (setting (codes "paginate") v)) (offset_of (setting (codes "timezone") v)) x unpublished show_drafts all) e8
    ∙ ap (λ (x : Bool). made (addresses v) (choices v) (documents v) (breaks v) (generated v) (count_of (setting (codes "paginate") v)) (offset_of (setting (codes "timezone") v)) (flag (setting (codes "future") v)) x show_drafts all) e9
    ∙ ap (λ (x : Bool). made (addresses v) (choices v) (documents v) (breaks v) (generated v) (count_of (setting (codes "paginate") v)) (offset_of (setting (codes "timezone") v)) (flag (setting (codes "future") v)) (flag (setting (codes "unpublished") v)) x all) e10
    ∙ ap (λ (x : Pairs). made (addresses v) (choices v) (documents v) (breaks v) (generated v) (count_of (setting (codes "paginate") v)) (offset_of (setting (codes "timezone") v)) (flag (setting (codes "future") v)) (flag (setting (codes "unpublished") v)) (flag (setting (codes "show_drafts") v)) x) e11
