-- Which items are rendered anew, and why.
use Rattle.std.specs.Prelude.{ℕ, zero, suc, if◌then◌else◌, List, [], ◌∷◌, ◌++◌, drop, map, Option, Some, None}
use Rattle.site_base.specs.declared.item_name.ItemName.{ItemName}
use Rattle.read_record.specs.declared.key.Key.{Key}
use Rattle.read_record.specs.declared.outcome.Agreement.{Agreement}
use Rattle.read_record.specs.declared.outcome.Agreement.TheVariants as agreement
use Rattle.read_record.specs.Queries.{View, Reads}
use Rattle.read_record.specs.Records.{agreement_of}
use Rattle.read_record.specs.Entries.{Kept}
use Rattle.round_core.specs.Meant.{Given, name_at, kept_at, view_at, is_stale, stale}
use Rattle.render_workers.specs.declared.answers.Why.{Why}

abbrev pub other_at : Agreement → Key → Option Key → Option Key
other_at agreement.Same k behind = behind
other_at agreement.Other k behind = Some k
other_at (agreement.Needs j) k behind = Some k

-- the key of the first read that the view does not answer with the value that was seen
abbrev pub first_other_key : Reads → View → Option Key
first_other_key [] view = None
first_other_key (r ∷ rs) view = other_at (agreement_of (view r.0) r.1) r.0 (first_other_key rs view)

-- why an item is stale: None where nothing is kept of it
abbrev pub reason_of : Option Kept → View → Option Key
reason_of None view = None
reason_of (Some kept) view = first_other_key kept.reads view

abbrev pub why_for : ItemName → Option Key → Why
why_for name key = record { name = name; key = key }

-- the item of this name, where it is stale
abbrev pub why_of : Option Kept → View → ItemName → List Why
why_of kept view name = if is_stale kept view then why_for name (reason_of kept view) ∷ [] else []

abbrev pub why_at : Given → ℕ → List Why
why_at g i = why_of (kept_at g i) (view_at g i) (name_at g i)

-- the stale items below n, in render order, each with its reason
unfoldable pub whys_below : Given → ℕ → List Why
whys_below g zero = []
whys_below g (suc n) = whys_below g n ++ why_at g n

abbrev pub why_names : List Why → List ItemName
why_names whys = map (λ (w : Why). w.name) whys

-- of these names, which are those of the items from i on, the names of the stale items
abbrev pub stale_in : Given → ℕ → List ItemName → List ItemName
stale_in g i [] = []
stale_in g i (name ∷ names) = (if stale g i then name ∷ [] else []) ++ stale_in g (suc i) names

-- the names of the stale items from i on
abbrev pub stale_behind : Given → ℕ → List ItemName
stale_behind g i = stale_in g i (drop i g.names)
