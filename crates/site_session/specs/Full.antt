-- What a site stands for: the files of its output, or its first fault. After Jekyll 4's manual, "Rendering process", whose order of the items is that of `site_reader`.
use Rattle.std.specs.Prelude.{ℕ, ℤ, suc, ◌-◌, List, [], length, fold, slice_get, Option, Some, None, option_and_then, Ok, Err}
use Rattle.std.specs.FinMap.{empty, get, insert}
use Rattle.memo_table.specs.Entries.{Entries, of_names}
use Rattle.page_render.specs.Items.{item}
use Rattle.read_record.specs.Queries.{Gave, Failed, Missed}
use Rattle.read_record.specs.declared.outcome.Outcome.{Outcome}
use Rattle.read_record.specs.declared.outcome.Outcome.TheVariants.{Done, Fault}
use Rattle.render_workers.specs.Folds.{Folded, fold_of}
use Rattle.render_workers.specs.Rounds.{entries_below}
use Rattle.render_workers.specs.Whys.{stale_behind, whys_below, why_names}
use Rattle.render_workers.specs.declared.answers.Why.{Why}
use Rattle.round_core.specs.Meant.{Given, given_by}
use Rattle.site_base.specs.Chains.{◌>>=◌}
use Rattle.site_base.specs.Faults.{fault_at}
use Rattle.site_base.specs.Places.{Files}
use Rattle.site_base.specs.declared.faults.FaultKind.TheVariants.{Nesting}
use Rattle.site_base.specs.declared.faults.SiteFault.{SiteFault}
use Rattle.site_base.specs.declared.item_name.ItemName.{ItemName}
use Rattle.site_base.specs.declared.settings.Settings.{Settings}
use Rattle.site_items.specs.declared.static_file.StaticFile.{StaticFile}
use Rattle.site_reader.specs.Found.{Found}
use Rattle.site_reader.specs.Sites.{site}
use Rattle.site_reader.specs.declared.site.Site.{Site}
use Rattle.site_reader.specs.Winners.{winners}
use Rattle.site_reader.specs.declared.winner.Winner.{Winner}
use Rattle.site_reader.specs.declared.winner.Winner.TheVariants.{Page, Copy, Document}
use Rattle.site_session.specs.Bases.{base_of}
use Rattle.site_session.specs.declared.output.Output.{Output}
use Rattle.site_session.specs.declared.output.Written.{Written}
use Rattle.site_world.specs.Sights.{fixed_bytes, item_names, site_sight}

-- ---- items, rendered

-- the items of a site: what they see and mean, and what is kept of them
abbrev pub given_of : Files → Site → Entries → Given
given_of files site kept = given_by (item_names site) (site_sight files site) item kept

-- the items rendered one after another, from nothing
abbrev pub rendered : Files → Site → Folded
rendered files site = fold_of (given_of files site empty) (fixed_bytes files site)

-- a site with what its items came to
pub record Whole : Type 0 where
  pub site : Site
  pub outs : List Outcome

-- no item misses a key, so this is never told
abbrev pub untold : SiteFault
untold = fault_at Nesting []

abbrev pub whole_by : Site → Folded → Found Whole
whole_by site (Gave outs) = Ok (record { site = site; outs = outs })
whole_by site (Failed e) = Err e.1
whole_by site (Missed k j) = Err untold

-- the site with what its items come to, or their first fault
abbrev pub whole : Files → Site → Found Whole
whole files site = whole_by site (rendered files site)

-- ---- the tree

-- what is written of an item that came to this
abbrev pub outcome_bytes : Outcome → Option (List ℕ)
outcome_bytes (Done content output) = Some output
outcome_bytes (Fault fault) = None

abbrev pub item_bytes : List Outcome → ℕ → Option (List ℕ)
item_bytes outs place = option_and_then outcome_bytes (slice_get outs place)

-- what is held of a file that is copied
abbrev pub copy_bytes : Files → List StaticFile → ℕ → Option (List ℕ)
copy_bytes held copies place = option_and_then (λ copy. get held copy.path) (slice_get copies place)

-- the bytes of the output that wins a path
abbrev pub winner_bytes : Files → Site → List Outcome → Winner → Option (List ℕ)
winner_bytes held site outs (Page place) = item_bytes outs place
winner_bytes held site outs (Document place) = item_bytes outs place
winner_bytes held site outs (Copy place) = copy_bytes held site.statics place

-- a file at a path, where there are bytes for it
abbrev pub with_bytes : Files → List ℕ → Option (List ℕ) → Files
with_bytes tree path None = tree
with_bytes tree path (Some bytes) = insert tree path bytes

abbrev pub with_output : Files → Site → List Outcome → Files → List ℕ × Winner → Files
with_output held site outs tree won = with_bytes tree won.0 (winner_bytes held site outs won.1)

-- each path that some output has, with the bytes of the output that wins it
abbrev pub tree_of : Files → Site → List Outcome → Files
tree_of held site outs = fold (with_output held site outs) empty (winners site.config site.items site.statics)

-- ---- what a site writes

abbrev pub written_by : Files → Whole → Written
written_by files w = record { tree = tree_of files w.site w.outs; keep = w.site.config.keep_files; base = base_of w.site.config.baseurl }

-- what the files that make this site stand for
abbrev pub written_in : Files → Found Site → Found Written
written_in files found = found >>= λ site. whole files site >>= λ w. Ok (written_by files w)

-- the files that a site writes, the paths that stay though it lacks them, and the base of its addresses; or its first fault, of reading or else of rendering
abbrev pub full : Files → ℤ → Settings → Found Written
full files moment settings = written_in files (site files moment settings)

abbrev pub fault_of : {A : Type 0} → Found A → Option SiteFault
fault_of (Ok found) = None
fault_of (Err fault) = Some fault

-- ---- what is kept from one build to the next

-- the items that are rendered anew, with the reasons: those of which nothing is kept, or whose record no longer agrees
abbrev pub whys_of : Files → Entries → Site → List Why
whys_of files kept site = whys_below (given_of files site kept) (length (item_names site))

-- what a build writes, and what it renders for that
abbrev pub output_of : Files → Entries → Whole → Output
output_of files kept w =
    let whys = whys_of files kept w.site in
    record { written = written_by files w; rendered = length whys; reused = length (item_names w.site) - length whys; why = whys }

-- the same, with what is rendered for it where these entries are kept
abbrev pub output_in : Files → Entries → Found Site → Found Output
output_in files kept found = found >>= λ site. whole files site >>= λ w. Ok (output_of files kept w)

-- once the items were rendered each has its certified entry, and no other name is kept; behind a fault those before it have theirs
abbrev pub kept_by : Given → Folded → Entries
kept_by g (Gave outs) = of_names g.names (entries_below g (length g.names))
kept_by g (Failed e) = entries_below g e.0
kept_by g (Missed k j) = g.entries

abbrev pub kept_after : Files → Entries → Found Site → Entries
kept_after files kept (Ok site) = kept_by (given_of files site kept) (rendered files site)
kept_after files kept (Err fault) = kept

-- the names of the items that are rendered, up to the one that has the first fault
abbrev pub names_by : Given → Folded → List ItemName
names_by g (Gave outs) = why_names (whys_below g (length g.names))
names_by g (Failed e) = why_names (whys_below g (suc e.0))
names_by g (Missed k j) = []

abbrev pub names_rendered : Files → Entries → Found Site → List ItemName
names_rendered files kept (Ok site) = names_by (given_of files site kept) (rendered files site)
names_rendered files kept (Err fault) = []

-- the names of the stale items behind the one that has the first fault, some of which a build may render too
abbrev pub names_past : Given → Folded → List ItemName
names_past g (Gave outs) = []
names_past g (Failed e) = stale_behind g (suc e.0)
names_past g (Missed k j) = []

abbrev pub names_behind : Files → Entries → Found Site → List ItemName
names_behind files kept (Ok site) = names_past (given_of files site kept) (rendered files site)
names_behind files kept (Err fault) = []
