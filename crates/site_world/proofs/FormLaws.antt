-- The forms of what a lawful site has.
use Rattle.std.proofs.Common.{◌≡◌, ℕ, ℤ, pos, negsuc, ◌<◌, ◌^◌, ◌≤ℤ◌, Bool, true, false, cond, nat_le, ◌&&◌, is_none, is_some, List, [], ◌∷◌, length, All, Some, None, inl, inr, refl, sym, ap, ◌∙◌, arith}
use Rattle.std.specs.Prelude.{T}
use Rattle.std.specs.FinMap.{entries}
use Rattle.std.specs.List.{list_all, sum_by}
use Rattle.std.proofs.lemmas.List.{length-map}
use Rattle.std.proofs.lemmas.List.Elements.{All-head, All-tail}
use Rattle.read_record.specs.Forms.{is_fields, is_layout, is_moment, is_some_hash}
use Rattle.site_base.specs.Limits.{last_moment}
use Rattle.site_base.specs.Places.{Files}
use Rattle.site_base.specs.Path.{path_refusal}
use Rattle.site_base.specs.Plain.{Plain, int}
use Rattle.site_base.specs.View.{plain}
use Rattle.site_config.specs.declared.config.Config.{Config}
use Rattle.site_dates.specs.Moment.{IsMoment}
use Rattle.site_items.specs.declared.layout_file.LayoutFile.{LayoutFile}
use Rattle.site_items.specs.declared.static_file.StaticFile.{StaticFile}
use Rattle.site_reader.specs.Lawful.{HasHash, HasPaginator, HasVariables, IsLawful}
use Rattle.site_reader.specs.declared.site.Site.{Site}
use Rattle.site_reader.specs.declared.site_item.SiteItem.{SiteItem}
use Rattle.site_world.proofs.Apart.{apart}
use Rattle.site_world.specs.Copied.{copied_length}
use Rattle.site_world.specs.Named.{named}
use Rattle.site_world.specs.Sights.{AreFormed, NamesDiffer, copy_at, fixed_bytes, item_names, layout_value}
use Rattle.site_world.specs.declared.named.Named.{Named}
use Rattle.source_tree.specs.Limits.{CanBeHeld}

both : (a b : Bool) → a ≡ true → b ≡ true → (a && b) ≡ true
both a b e h = ap (λ c. c && b) e ∙ h

paginator_formed : (item : SiteItem) → HasPaginator item → is_fields (plain item.paginator) ≡ true
paginator_formed item (inl none) = ap is_fields none
paginator_formed item (inr page) = ap is_fields page.2

pub paginators : (config : Config) (items : List SiteItem) → All (HasVariables config) items → list_all (λ item. is_fields (plain item.paginator)) items ≡ true
paginators config [] h = refl
paginators config (item ∷ items) h =
    both (is_fields (plain item.paginator)) (list_all (λ item. is_fields (plain item.paginator)) items)
    (paginator_formed item (All-head (HasVariables config) item items h).paginator)
    (paginators config items (All-tail (HasVariables config) item items h))

holds : (b : Bool) → T b → b ≡ true
holds true t = refl
holds false t = absurd t

pub moment : (m : ℤ) → IsMoment m → pos 0 ≤ℤ m → is_moment (int m) ≡ true
moment (pos n) h g = holds (nat_le n last_moment) h.1.le
moment (negsuc n) h g = absurd g.le

-- ---- what the world of a lawful site knows

pub few : (files : Files) (site : Site) → IsLawful files site → CanBeHeld files → length site.items < 2 ^ 31
few files site lawful held = omega (arith, lawful.few, held.few)

pub differ : (files : Files) (site : Site) → IsLawful files site → NamesDiffer (item_names site)
differ files site lawful i j lt e =
    let within : i < length site.items = omega (arith, lt, length-map site.items (λ (item : SiteItem). item.name)) in
    apart (λ (item : SiteItem). item.name) site.items lawful.items_differ i j within e

pub forms : (files : Files) (site : Site) → IsLawful files site → pos 0 ≤ℤ site.moment → list_all (λ layout. is_layout (layout_value layout)) site.layouts ≡ true → AreFormed site
forms files site lawful since layouts =
    record { layouts = layouts; paginators = paginators site.config site.items lawful.variables; moment = moment site.moment lawful.moment since }

pub fixed : (copies : Named StaticFile) (files : Files) (site : Site) → ((x : List ℕ) → named copies x ≡ copy_at x site.statics) → sum_by (copied_length copies) (entries files) ≡ fixed_bytes files site
fixed copies files site e = λ i. sum_by (λ file. cond (is_some (e file.0 i)) (length file.1) 0) (entries files)

pub layout_formed : (layout : LayoutFile) (path : List ℕ) → path ≡ layout.path → path_refusal path ≡ None → HasHash layout → is_layout (layout_value layout) ≡ true
layout_formed layout path same fine vars =
    both (is_none (path_refusal layout.path)) (is_some_hash (Some (plain layout.vars)) && true)
    (ap is_none (ap path_refusal (sym same) ∙ fine))
    (both (is_some_hash (Some (plain layout.vars))) true (ap (λ (v : Plain). is_some_hash (Some v)) vars.1) refl)
