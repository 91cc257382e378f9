-- What is kept of files under a configuration, where that is the present one.
use Rattle.std.proofs.Common.{◌≡◌, ℕ, ◌<◌, ◌&&◌, ◌++◌, Bool, true, false, cond, Bor, IfSome, List, [], ◌∷◌, length, get_or, map, None, Ok, Some, T, arith, refl, sym, ap, subst, ◌∙◌}
use Rattle.std.specs.FinMap.{FinMap, empty, empty_of_len, len, len-empty, len-entries, entries, entries_sorted, entries-from_sorted, find, from_sorted, get, get-entries, get-from_sorted, is_sorted, nat_cmp-IsAntisymmetric, slice_cmp-IsAntisymmetric}
use Rattle.std.specs.FinMap.Entries.{below_all}
use Rattle.std.specs.Option.{option_copied, option_map}
use Rattle.std.specs.Ordering.{eq_by_cmp, is_eq, is_lt}
use Rattle.std.specs.Prelude.{Option}
use Rattle.std.specs.declared.cmp.Ordering.{Ordering}
use Rattle.std.specs.declared.cmp.Ordering.TheVariants.{Less, Equal, Greater}
use Rattle.std.proofs.lemmas.List.{get_or-map, length-map}
use Rattle.std.proofs.lemmas.List.Elements.{All-head, All-push, All-tail}
use Rattle.site_base.specs.Chains.{◌>>=◌}
use Rattle.site_base.specs.PathMap.{as_map}
use Rattle.site_base.specs.Places.{PathsRise, path_cmp}
use Rattle.site_base.specs.declared.path_map.PathMap.{PathMap}
use Rattle.site_config.specs.declared.config.Config.{Config}
use Rattle.site_files.specs.Places.{place_of}
use Rattle.site_files.specs.declared.place.Place.{Place}
use Rattle.site_items.specs.Defaults.{by_strength}
use Rattle.site_items.specs.Items.{timeless}
use Rattle.site_items.specs.Matter.{outcome_of}
use Rattle.site_items.specs.Outcomes.{Outcome}
use Rattle.site_items.specs.declared.kind.Kind.{Kind}
use Rattle.site_items.specs.declared.timeless.Timeless.{Timeless}
use Rattle.site_reader.specs.Configured.{config_in}
use Rattle.site_reader.specs.Placements.{AreKnown, ArePlaced, AreUnder, IsMade, IsPlaced, IsPlacedBy, IsSound, KeptEntry, as_kept, bytes_at, bytes_in, place_under, timeless_under}
use Rattle.site_reader.specs.Placing.{Placed, placed, seen}
use Rattle.site_reader.specs.declared.kept_files.KeptFiles.{KeptFiles}
use Rattle.site_reader.specs.declared.kept_item.KeptItem.{KeptItem}
use Rattle.site_reader.specs.declared.placed_file.PlacedFile.{PlacedFile}
use Rattle.site_reader.specs.declared.site_file.SiteFile.{SiteFile}
use Rattle.site_reader.specs.declared.told.Told.{Told}
use Rattle.site_reader.proofs.Weights.{found_value}

-- ---- one file

pub place_known : (told : Option (List ℕ)) (drafts : Bool) (path : List ℕ) (place : Place) (c : Config) → place_under told drafts path ≡ Ok place → config_in told ≡ Ok c → place ≡ place_of c drafts path
place_known told drafts path place c is tells =
    found_value place (place_of c drafts path) (sym is ∙ ap (λ (o : Outcome Config). o >>= λ d. Ok (place_of d drafts path)) tells)

timeless_known : (told : Option (List ℕ)) (k : Kind) (path bytes : List ℕ) (made : Outcome Timeless) (c : Config) → timeless_under told k path bytes ≡ made → config_in told ≡ Ok c → timeless c (by_strength c.defaults) k path bytes ≡ made
timeless_known told k path bytes made c is tells = sym (ap (λ (o : Outcome Config). o >>= λ d. timeless d (by_strength d.defaults) k path bytes) tells) ∙ is

item_known : (told : Option (List ℕ)) (path bytes : List ℕ) (kept : Option (Bor KeptItem)) (c : Config) → IsMade told path bytes (option_copied kept) → config_in told ≡ Ok c
    → IfSome kept (λ item. timeless c (by_strength c.defaults) item.now.kind path bytes ≡ outcome_of item.now.made)
item_known told path bytes None c made tells = tt
item_known told path bytes (Some item) c made tells = timeless_known told item.now.kind path bytes (outcome_of item.now.made) c made tells

-- what was kept under a configuration, where that is this one
pub placed_by : (told : Told) (kept : KeptFiles) (path : List ℕ) (file : SiteFile) → AreUnder told kept → IsPlaced kept.told kept.drafts path file → IsPlacedBy told path file
placed_by told kept path file under is = subst (λ (p : Option (List ℕ) × Bool). IsPlaced p.0 p.1 path file) (λ i. (under.bytes i, under.drafts i)) is

-- one file more that is placed
pub placed_more : (told : Option (List ℕ)) (drafts : Bool) (made more : List KeptEntry) (entry : KeptEntry) (path : List ℕ) → entry.0 ≡ path → more ≡ made ++ entry ∷ [] → ArePlaced told drafts made → IsPlaced told drafts path entry.1
    → ArePlaced told drafts more
placed_more told drafts made more entry path at pushed all is =
    let here : IsPlaced told drafts entry.0 entry.1 = subst (λ (p : List ℕ). IsPlaced told drafts p entry.1) (sym at) is in
    subst (ArePlaced told drafts) (sym pushed) (All-push (λ (e : KeptEntry). IsPlaced told drafts e.0 e.1) made entry all here)

pub sound_under : (told : Told) (kept : KeptFiles) (files : List KeptEntry) → AreUnder told kept → entries (as_map kept.files) ≡ files → ArePlaced (option_copied told.bytes) told.drafts files → IsSound kept
sound_under told kept files under is all =
    subst (λ (p : Option (List ℕ) × Bool). ArePlaced p.0 p.1 (entries (as_map kept.files))) (λ i. (sym under.bytes i, sym under.drafts i)) (subst (ArePlaced (option_copied told.bytes) told.drafts) (sym is) all)

-- ---- the bytes of all files

below_bytes : (k : List ℕ) (es : List KeptEntry) → below_all path_cmp k (map bytes_at es) ≡ below_all path_cmp k es
below_bytes k [] = refl
below_bytes k (e ∷ es) = ap (λ b. is_lt (path_cmp k e.0) && b) (below_bytes k es)

sorted_bytes : (es : List KeptEntry) → is_sorted path_cmp (map bytes_at es) ≡ is_sorted path_cmp es
sorted_bytes [] = refl
sorted_bytes (e ∷ es) = λ i. below_bytes e.0 es i && sorted_bytes es i

pub kept_rise : (es : List KeptEntry) → PathsRise (map bytes_at es) → PathsRise es
kept_rise es rise = sym (sorted_bytes es) ∙ rise

bytes_sorted : (files : PathMap SiteFile) → T (is_sorted path_cmp (map bytes_at (entries (as_map files))))
bytes_sorted files = subst T (sym (sorted_bytes (entries (as_map files)))) (entries_sorted (as_map files))

entries_bytes : (files : PathMap SiteFile) → entries (bytes_in files) ≡ map bytes_at (entries (as_map files))
entries_bytes files = entries-from_sorted path_cmp (map bytes_at (entries (as_map files))) (bytes_sorted files)

no_entries : (files : PathMap SiteFile) → as_map files ≡ empty → length (entries (as_map files)) ≡ 0
no_entries files is = sym (len-entries (as_map files)) ∙ ap len is ∙ len-empty path_cmp SiteFile

pub no_bytes : (files : PathMap SiteFile) → as_map files ≡ empty → bytes_in files ≡ empty
no_bytes files is =
    empty_of_len (bytes_in files) (len-entries (bytes_in files) ∙ ap length (entries_bytes files) ∙ length-map (entries (as_map files)) bytes_at ∙ no_entries files is)

pub none_placed : (told : Option (List ℕ)) (drafts : Bool) (files : PathMap SiteFile) → as_map files ≡ empty → ArePlaced told drafts (entries (as_map files))
none_placed told drafts files is k d lt = absurd (omega (arith, no_entries files is, lt))

pub entries_kept : (files : PathMap SiteFile) (es : List KeptEntry) → PathsRise es → as_map files ≡ from_sorted es → entries (as_map files) ≡ es
entries_kept files es rise is = ap (λ (m : FinMap path_cmp SiteFile). entries m) is ∙ entries-from_sorted path_cmp es (subst T (sym rise) tt)

find_bytes : (q : List ℕ) (es : List KeptEntry) → find path_cmp q (map bytes_at es) ≡ option_map (λ file. file.file) (find path_cmp q es)
find_bytes q [] = refl
find_bytes q (e ∷ es) =
    elim (eq_by_cmp path_cmp q e.0) as (λ b. cond b (Some e.1.file) (find path_cmp q (map bytes_at es)) ≡ option_map (λ file. file.file) (cond b (Some e.1) (find path_cmp q es))) [
      | true ↦ refl
      | false ↦ find_bytes q es
    ]

pub get_bytes : (files : PathMap SiteFile) (q : List ℕ) → get (bytes_in files) q ≡ option_map (λ file. file.file) (get (as_map files) q)
get_bytes files q =
    get-from_sorted path_cmp (map bytes_at (entries (as_map files))) q (bytes_sorted files)
    ∙ find_bytes q (entries (as_map files))
    ∙ ap (option_map (λ (file : SiteFile). file.file)) (sym (get-entries (as_map files) q))

-- the file that is found at a path is placed there
equal : (r : Ordering) → is_eq r ≡ true → r ≡ Equal
equal Less p = absurd (cc (p))
equal Equal p = refl
equal Greater p = absurd (cc (p))

found_placed : (told : Option (List ℕ)) (drafts : Bool) (q : List ℕ) (es : List KeptEntry) → ArePlaced told drafts es → IfSome (find path_cmp q es) (IsPlaced told drafts q)
found_placed told drafts q [] all = tt
found_placed told drafts q (e ∷ es) all =
    elim (eq_by_cmp path_cmp q e.0) as (λ b. eq_by_cmp path_cmp q e.0 ≡ b → IfSome (cond b (Some e.1) (find path_cmp q es)) (IsPlaced told drafts q)) [
      | true ↦ λ t. subst (λ (path : List ℕ). IsPlaced told drafts path e.1) (sym (slice_cmp-IsAntisymmetric nat_cmp-IsAntisymmetric q e.0 (equal _ t))) (All-head (λ (f : KeptEntry). IsPlaced told drafts f.0 f.1) e es all)
      | false ↦ λ t. found_placed told drafts q es (All-tail (λ (f : KeptEntry). IsPlaced told drafts f.0 f.1) e es all)
    ] refl

pub get_placed : (kept : KeptFiles) (q : List ℕ) (file : Option (Bor SiteFile)) → IsSound kept → option_copied file ≡ get (as_map kept.files) q → IfSome file (λ f. IsPlaced kept.told kept.drafts q f.now)
get_placed kept q None sound is = tt
get_placed kept q (Some file) sound is =
    subst (λ (o : Option SiteFile). IfSome o (IsPlaced kept.told kept.drafts q)) (sym (is ∙ get-entries (as_map kept.files) q)) (found_placed kept.told kept.drafts q (entries (as_map kept.files)) sound)

-- ---- all files with their places

module _ (told : Option (List ℕ)) (drafts : Bool) (c : Config) (tells : config_in told ≡ Ok c) where
  shown : KeptEntry → Placed
  shown e = (e.1.place, (e.0, e.1.file))

  all_shown : (files : List PlacedFile) → map seen files ≡ map shown (map as_kept files)
  unfolding shown
  all_shown [] = refl
  all_shown (f ∷ fs) = ap (λ (xs : List Placed). seen f ∷ xs) (all_shown fs)

  shown_placed : (es : List KeptEntry) → ArePlaced told drafts es → map shown es ≡ map (placed c drafts) (map bytes_at es)
  unfolding shown
  shown_placed [] all = refl
  shown_placed (e ∷ es) all =
      let here = All-head (λ (f : KeptEntry). IsPlaced told drafts f.0 f.1) e es all in
      let rest = shown_placed es (All-tail (λ (f : KeptEntry). IsPlaced told drafts f.0 f.1) e es all) in
      λ i. (place_known told drafts e.0 e.1.place c here.place tells i, (e.0, e.1.file)) ∷ rest i

  pub all_seen : (files : List PlacedFile) (m : PathMap SiteFile) → map as_kept files ≡ entries (as_map m) → ArePlaced told drafts (entries (as_map m)) → map seen files ≡ map (placed c drafts) (entries (bytes_in m))
  all_seen files m is all =
      all_shown files
      ∙ ap (map shown) is
      ∙ shown_placed (entries (as_map m)) all
      ∙ ap (map (placed c drafts)) (sym (entries_bytes m))

  pub all_known : (files : List PlacedFile) (es : List KeptEntry) → map as_kept files ≡ es → ArePlaced told drafts es → AreKnown c (by_strength c.defaults) files
  all_known files es is all k d lt =
      let file = get_or files k d in
      let there : k < length (map as_kept files) = subst (λ n. k < n) (sym (length-map files as_kept)) lt in
      let kept : ArePlaced told drafts (map as_kept files) = subst (ArePlaced told drafts) (sym is) all in
      let here : IsPlaced told drafts (as_kept file).0 (as_kept file).1 = subst (λ (e : KeptEntry). IsPlaced told drafts e.0 e.1) (get_or-map as_kept files k d (as_kept d) lt) (kept k (as_kept d) there) in
      item_known told file.path.now file.content file.kept c here.item tells
