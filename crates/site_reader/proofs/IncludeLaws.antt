-- The names of includes differ, since their paths do.
use Rattle.std.proofs.Common.{◌≡◌, ℕ, ◌+◌, ◌≤◌, ◌==◌, Bool, true, false, ◌&&◌, ◌||◌, not, codes, List, [], ◌∷◌, ◌++◌, map, Option, Some, None, Ok, Err, if◌then◌else◌, position, eqb-true, arith, refl, sym, ap, subst, ◌∙◌}
use Rattle.std.specs.FinMap.{entries}
use Rattle.std.specs.Prelude.{ℤ}
use Rattle.std.specs.Str.{bytes_eq, is_utf8}
use Rattle.site_base.specs.Clash.{is_below}
use Rattle.site_base.specs.Places.{Files, same_path}
use Rattle.site_base.specs.declared.faults.FaultKind.TheVariants as fault
use Rattle.site_config.specs.declared.config.Config.{Config}
use Rattle.site_files.specs.Choosing.{is_brought_in, is_taken_out}
use Rattle.site_files.specs.Names.{file_name}
use Rattle.site_files.specs.Places.{common_place, has_hidden_segment, is_folder_of, lies_in, lies_in_posts, place_in, place_of, post_place}
use Rattle.site_files.specs.PostNames.{is_post_name}
use Rattle.site_files.specs.declared.place.Place.{Place}
use Rattle.site_files.specs.declared.place.Place.TheVariants as place
use Rattle.site_items.specs.Addresses.{behind}
use Rattle.site_items.specs.Files as file
use Rattle.site_items.specs.Outcomes.{Outcome}
use Rattle.site_items.specs.declared.include_file.IncludeFile.{IncludeFile}
use Rattle.site_reader.specs.Found.{in_file}
use Rattle.site_reader.specs.Lawful.{Differ}
use Rattle.site_reader.specs.Placing.{File, Placed, placed}
use Rattle.site_reader.specs.Sites as sites
use Rattle.site_reader.proofs.Differing.{differ, file_once, itself, named, one, same}
use Rattle.site_reader.proofs.Weights.{each_adds, file_found, found_before, found_value, weight, weight-append, weight-map, weight_le}

-- ---- which files are includes

is_include : Place → Bool
is_include place.Include = true
is_include other = false

no_post : (offset : ℤ) (path : List ℕ) → is_include (post_place offset path) ≡ false
unfolding post_place is_include
no_post offset path = by (is_post_name offset (file_name path))
  where
    by : (b : Bool) → is_include (if b then place.Post else place.Nowhere) ≡ false
    by true = refl
    by false = refl

no_common : (number : Option ℕ) (brought : Bool) (path : List ℕ) → is_include (place_in number (common_place brought path)) ≡ false
unfolding common_place is_include
no_common (Some number) brought path = refl
no_common None brought path = by (brought || not (has_hidden_segment path))
  where
    by : (b : Bool) → is_include (if b then place.Common else place.Nowhere) ≡ false
    by true = refl
    by false = refl

-- the first of the places that fits
only : (first out layout include data_file post draft : Bool) (dated rest : Place) → is_include dated ≡ false → is_include rest ≡ false
    → is_include (if first then place.Configuration else if out then place.Nowhere else if layout then place.Layout else if include then place.Include
    else if data_file then place.Data else if post then dated else if draft then place.Draft else rest) ≡ true → include ≡ true
unfolding is_include
only true out layout include data_file post draft dated rest p r e = absurd (cc (e))
only false true layout include data_file post draft dated rest p r e = absurd (cc (e))
only false false true include data_file post draft dated rest p r e = absurd (cc (e))
only false false false true data_file post draft dated rest p r e = refl
only false false false false true post draft dated rest p r e = absurd (cc (e))
only false false false false false true draft dated rest p r e = absurd (cc (e, p))
only false false false false false false true dated rest p r e = absurd (cc (e))
only false false false false false false false dated rest p r e = absurd (cc (e, r))

front : (a b : Bool) → (a && b) ≡ true → a ≡ true
front true b e = refl
front false b e = absurd (cc (e))

lies : (config : Config) (drafts : Bool) (path : List ℕ) → place_of config drafts path ≡ place.Include → is_below path (codes "_includes") ≡ true
unfolding is_include lies_in
lies config drafts path is =
    let brought = is_brought_in config.include path in
    front (is_below path (codes "_includes")) _
    (only (bytes_eq path (codes "_config.yml")) (not brought && is_taken_out config.exclude path) (lies_in (codes "_layouts") brought path) (lies_in (codes "_includes") brought path)
    (lies_in (codes "_data") brought path) (lies_in_posts brought path) (drafts && lies_in (codes "_drafts") brought path)
    (post_place config.timezone path) (place_in (position (is_folder_of brought path) config.collections) (common_place brought path))
    (no_post config.timezone path) (no_common _ brought path) (ap is_include is))

back : (a b : Bool) → (a && b) ≡ true → b ≡ true
back true b e = e
back false b e = absurd (cc (e))

-- what lies below a folder begins with it and `/`
below : (path folder : List ℕ) → is_below path folder ≡ true → (rest : List ℕ) × (path ≡ folder ++ 47 ∷ rest)
below [] folder e = absurd (cc (e))
below (b ∷ path) [] e = (path, ap (λ c. c ∷ path) (eqb-true b 47 e))
below (b ∷ path) (c ∷ folder) e =
    let more = below path folder (back (c == b) (is_below path folder) e) in
    (more.0, ap (λ d. d ∷ path) (sym (eqb-true c b (front (c == b) (is_below path folder) e))) ∙ ap (λ xs. c ∷ xs) more.1)

-- ---- their names

-- 1 where a file is the include of this name
name_weight : List ℕ → Placed → ℕ
name_weight q (place.Include, f) = named q (behind (codes "_includes/") f.0)
name_weight q (other, f) = 0

included : (f : File) (made : IncludeFile) → ◌≡◌ {A = Outcome IncludeFile} (file.include f.0 f.1) (Ok made) → behind (codes "_includes/") f.0 ≡ made.name
included f made e = by (is_utf8 f.1) e
  where
    by : (b : Bool) → ◌≡◌ {A = Outcome IncludeFile} (if b then Ok (record { name = behind (codes "_includes/") f.0; body = f.1 }) else Err (0, fault.NotUtf8)) (Ok made) → behind (codes "_includes/") f.0 ≡ made.name
    by true is = ap (λ (i : IncludeFile). i.name) (found_value _ made is)
    by false is = absurd (cc (is))

module _ (q : List ℕ) where
  abbrev names : List IncludeFile → ℕ
  names made = weight (λ i. named q i.name) made

  add_include : (f : Placed) (made more : List IncludeFile) → sites.add_include f made ≡ Ok more → names more ≤ names made + name_weight q f
  unfolding name_weight
  add_include (place.Include, f) made more e =
      let read = found_before (in_file f.0 (file.include f.0 f.1)) _ more e in
      omega (arith, ap names (found_value _ more read.2), weight-append (λ (i : IncludeFile). named q i.name) made (read.0 ∷ []), ap (named q) (included f read.0 (file_found f.0 (file.include f.0 f.1) read.0 read.1)))
  add_include (other, f) made more e = omega (arith, ap names (found_value made more e))

  behind_front : (rest : List ℕ) → named q (behind (codes "_includes/") (codes "_includes/" ++ rest)) ≤ named (codes "_includes/" ++ q) (codes "_includes/" ++ rest)
  behind_front rest = by (same_path q rest) refl
    where
      by : (b : Bool) → same_path q rest ≡ b → one b ≤ named (codes "_includes/" ++ q) (codes "_includes/" ++ rest)
      by true is = omega (arith, ap one (itself (codes "_includes/" ++ q) (codes "_includes/" ++ rest) (ap (λ xs. codes "_includes/" ++ xs) (same q rest is))))
      by false is = omega arith

  placed_weight : (config : Config) (drafts : Bool) (f : File) → name_weight q (placed config drafts f) ≤ named (codes "_includes/" ++ q) f.0
  unfolding name_weight
  placed_weight config drafts f = by (place_of config drafts f.0) refl
    where
      by : (p : Place) → place_of config drafts f.0 ≡ p → name_weight q (p, f) ≤ named (codes "_includes/" ++ q) f.0
      by place.Include is =
          let cut = below f.0 (codes "_includes") (lies config drafts f.0 is) in
          subst (λ path. named q (behind (codes "_includes/") path) ≤ named (codes "_includes/" ++ q) path) (sym cut.1) (behind_front cut.0)
      by other is = omega arith

  names_once : (files : Files) (config : Config) (drafts : Bool) (made : List IncludeFile) → sites.includes (map (placed config drafts) (entries files)) ≡ Ok made → names made ≤ 1
  names_once files config drafts made e =
      let adds : names made ≤ 0 + weight (name_weight q) (map (placed config drafts) (entries files)) = each_adds sites.add_include names (name_weight q) add_include (map (placed config drafts) (entries files)) [] made e in
      omega (
        arith,
        adds,
        weight-map (name_weight q) (placed config drafts) (entries files),
        weight_le (λ f. name_weight q (placed config drafts f)) (λ f. named (codes "_includes/" ++ q) f.0) (entries files) (placed_weight config drafts),
        file_once files (codes "_includes/" ++ q),
      )

pub includes_differ : (files : Files) (config : Config) (drafts : Bool) (made : List IncludeFile) → sites.includes (map (placed config drafts) (entries files)) ≡ Ok made → Differ (λ i. i.name) made
includes_differ files config drafts made e = differ (λ i. i.name) made (λ q. names_once q files config drafts made e)
