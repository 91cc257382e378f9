-- The paths that outputs have rise.
use Rattle.std.proofs.Common.{◌≡◌, ℕ, suc, Bool, true, false, List, [], ◌∷◌, Option, Some, None, if◌then◌else◌, refl}
use Rattle.std.specs.Prelude.{T}
use Rattle.std.specs.Cmp.Lexicographic.{nat_list_cmp_total}
use Rattle.std.specs.FinMap.Entries.{is_sorted}
use Rattle.site_base.specs.Places.{PathsRise, path_cmp}
use Rattle.site_config.specs.declared.config.Config.{Config}
use Rattle.site_items.specs.declared.static_file.StaticFile.{StaticFile}
use Rattle.site_reader.specs.Winners.{Winners, is_of, winner_of, winners, with_copies, with_item, with_items, with_winner}
use Rattle.site_reader.specs.declared.site_item.SiteItem.{SiteItem}
use Rattle.site_reader.specs.declared.winner.Kind.{Kind}
use Rattle.site_reader.specs.declared.winner.Kind.TheVariants.{Pages, Documents}
use Rattle.site_reader.specs.declared.winner.Winner.{Winner}
use Rattle.site_reader.specs.declared.winner.Winner.TheVariants.{Copy}
use Rattle.site_reader.proofs.Collected.{stays_sorted}

is_true : (b : Bool) → T b → b ≡ true
is_true true h = refl
is_true false h = absurd h

holds : (b : Bool) → b ≡ true → T b
holds true is = tt
holds false is = absurd (cc (is))

one_stays : (won : Winners) (path : Option (List ℕ)) (winner : Winner) → PathsRise won → PathsRise (with_winner won path winner)
one_stays won None winner rise = rise
one_stays won (Some path) winner rise =
    is_true (is_sorted path_cmp (with_winner won (Some path) winner)) (stays_sorted nat_list_cmp_total won ((path, winner) ∷ []) (holds (is_sorted path_cmp won) rise))

item_stays : (kind : Kind) (config : Config) (won : Winners) (place : ℕ) (item : SiteItem) → PathsRise won → PathsRise (with_item kind config won place item)
item_stays kind config won place item rise = by (is_of kind config item)
  where
    by : (b : Bool) → PathsRise (if b then with_winner won item.dest (winner_of kind place) else won)
    by true = one_stays won item.dest (winner_of kind place) rise
    by false = rise

items_stay : (kind : Kind) (config : Config) (won : Winners) (place : ℕ) (items : List SiteItem) → PathsRise won → PathsRise (with_items kind config won place items)
items_stay kind config won place [] rise = rise
items_stay kind config won place (item ∷ items) rise =
    items_stay kind config (with_item kind config won place item) (suc place) items (item_stays kind config won place item rise)

copies_stay : (won : Winners) (place : ℕ) (copies : List StaticFile) → PathsRise won → PathsRise (with_copies won place copies)
copies_stay won place [] rise = rise
copies_stay won place (copy ∷ copies) rise = copies_stay (with_winner won copy.dest (Copy place)) (suc place) copies (one_stays won copy.dest (Copy place) rise)

pub winners_rise : (config : Config) (items : List SiteItem) (copies : List StaticFile) → PathsRise (winners config items copies)
winners_rise config items copies =
    items_stay Documents config (with_copies (with_items Pages config [] 0 items) 0 copies) 0 items
    (copies_stay (with_items Pages config [] 0 items) 0 copies (items_stay Pages config [] 0 items refl))
