-- What posts are: they have dates, and no document of the first collection is none. And addresses, which begin with a slash.
use Rattle.std.proofs.Common.{◌≡◌, ℕ, zero, suc, ◌+◌, ◌-◌, ◌≤◌, Bool, true, false, cond, not, ◌&&◌, ◌||◌, ◌==◌, if◌then◌else◌, List, [], ◌∷◌, ◌++◌, codes, length, length-append, reverse, take, drop, Option, Some, None, is_some, Ok, arith, refl, sym, ap, subst, ◌∙◌}
use Rattle.std.specs.Prelude.{ℤ, count_by, fold, nat_lt, option_map, position}
use Rattle.std.specs.List.{list_any, onto_first, position_or_len, prefix_len, slice_split, suffix_len}
use Rattle.std.specs.Option.{option_or}
use Rattle.std.specs.Str.{bytes_eq}
use Rattle.std.proofs.lemmas.Bool.{eqb-true}
use Rattle.std.proofs.lemmas.List.{length-reverse, reverse-append}
use Rattle.site_base.specs.Clash.{is_below}
use Rattle.site_base.specs.Path.{segments}
use Rattle.site_base.specs.Plain.{Plain, hash}
use Rattle.permalinks.specs.Placeholders.{Values}
use Rattle.permalinks.specs.Url.{behind_slashes, filled, url_by, with_slashes}
use Rattle.site_config.specs.Config as of
use Rattle.site_config.specs.Forms.{setting}
use Rattle.site_config.specs.declared.collection.Collection.{Collection}
use Rattle.site_config.specs.declared.config.Config.{Config}
use Rattle.site_files.specs.Choosing.{is_brought_in, is_hidden, is_taken_out}
use Rattle.site_files.specs.Names.{file_name, folder, stem}
use Rattle.site_files.specs.Places.{common_place, has_hidden_segment, is_folder_of, lies_in, lies_in_posts, place_in, place_of, post_place}
use Rattle.site_files.specs.PostNames.{dated_name, has_title, is_post_name}
use Rattle.site_files.specs.declared.place.Place.{Place}
use Rattle.site_files.specs.declared.place.Place.TheVariants as place
use Rattle.site_items.specs.Addresses.{found_url, is_page}
use Rattle.site_items.specs.Dates.{name_date}
use Rattle.site_items.specs.Items.{document_date, has_present}
use Rattle.site_items.specs.Outcomes.{Outcome}
use Rattle.site_items.specs.declared.kind.Kind.{Kind}
use Rattle.site_items.specs.declared.kind.Kind.TheVariants as kind
use Rattle.front_yaml.specs.declared.front_matter.Front.{Front}
use Rattle.site_reader.specs.Lawful.{HasVariables, IsPost, IsRooted}
use Rattle.site_reader.specs.Placing.{has_matter, item_kind, kind_at}
use Rattle.site_reader.specs.Ranks.{group_of}
use Rattle.site_reader.specs.declared.site_item.SiteItem.{SiteItem}
use Rattle.site_reader.proofs.ConfigurationLaws.{IsFormed}
use Rattle.site_reader.proofs.Weights.{found_value}

-- ---- addresses

split_first : (p : ℕ → Bool) (xs : List ℕ) → (first : List ℕ) × (rest : List (List ℕ)) × (slice_split p xs ≡ first ∷ rest)
split_first p [] = ([], [], refl)
split_first p (x ∷ xs) = by (p x) (split_first p xs)
  where
    by : (b : Bool) → (first : List ℕ) × (rest : List (List ℕ)) × (slice_split p xs ≡ first ∷ rest)
        → (first : List ℕ) × (rest : List (List ℕ)) × (cond b ([] ∷ slice_split p xs) (onto_first x (slice_split p xs)) ≡ first ∷ rest)
    by true (first, rest, is) = ([], slice_split p xs, refl)
    by false (first, rest, is) = (x ∷ first, rest, ap (onto_first x) is)

slashes_rooted : (ends : Bool) (segment : List ℕ) (others : List (List ℕ)) → IsRooted (behind_slashes ends (segment ∷ others))
slashes_rooted true [] [] = ([], refl)
slashes_rooted false [] [] = ([], refl)
slashes_rooted true [] (s ∷ others) = slashes_rooted true s others
slashes_rooted false [] (s ∷ others) = slashes_rooted true s others
slashes_rooted true (b ∷ segment) others = ((b ∷ segment) ++ behind_slashes false others, refl)
slashes_rooted false (b ∷ segment) others = ((b ∷ segment) ++ behind_slashes false others, refl)

text_rooted : (text : List ℕ) → IsRooted (with_slashes text)
text_rooted text = let parts = split_first (λ b. b == 47) text in
    subst (λ all. IsRooted (behind_slashes false all)) (sym parts.2) (slashes_rooted false parts.0 parts.1)

pub url_rooted : (template : List ℕ) (values : Values) (address : List ℕ) → ◌≡◌ {A = Outcome (List ℕ)} (found_url (url_by template values)) (Ok address) → IsRooted address
url_rooted template values address e = by (filled values template) e
  where
    by : (text : Option (List ℕ)) → ◌≡◌ {A = Outcome (List ℕ)} (found_url (option_map with_slashes text)) (Ok address) → IsRooted address
    by None is = absurd (cc (is))
    by (Some text) is = subst IsRooted (found_value (with_slashes text) address is) (text_rooted text)

-- ---- the first collection

pub record HasPosts (config : Config) : Type 0 where
  pub first : Collection
  pub others : List Collection
  pub are : config.collections ≡ first ∷ others
  pub is_posts : first.name ≡ codes "posts"

-- with more collections it is still the first
abbrev Stays : Collection → List (List ℕ × Plain) → List Collection → Type 0
Stays first given cs = (rest : List Collection) × (fold of.add cs given ≡ first ∷ rest)

first_stays : (first : Collection) (others : List Collection) (given : List (List ℕ × Plain)) → Stays first given (first ∷ others)
first_stays first others [] = (others, refl)
first_stays first others (p ∷ given) = by (of.is_named p.0 (first ∷ others)) (first_stays first others given) (first_stays first (others ++ of.collection p.0 p.1 ∷ []) given)
  where
    by : (b : Bool) → Stays first given (first ∷ others) → Stays first given (first ∷ (others ++ of.collection p.0 p.1 ∷ [])) → Stays first given (if b then first ∷ others else (first ∷ others) ++ of.collection p.0 p.1 ∷ [])
    by true here more = here
    by false here more = more

pub posts_first : (config : Config) → IsFormed config → HasPosts config
posts_first config formed =
    let all = of.named (setting (codes "collections") (hash config.all)) in
    let posts = of.posts (setting (codes "collections") (hash config.all)) in
    let kept = first_stays posts [] all in
    record { first = posts; others = kept.0; are = ap (λ (c : Config). c.collections) formed.says ∙ kept.1; is_posts = refl }

-- ---- the folder of posts

module _ (p : ℕ → Bool) (x : ℕ) (stops : p x ≡ false) where
  prefix_within : (ys zs : List ℕ) → prefix_len p (ys ++ x ∷ zs) ≤ length ys
  prefix_within [] zs = rw stops (omega arith)
  prefix_within (y ∷ ys) zs = by (p y) (prefix_within ys zs)
    where
      by : (b : Bool) → prefix_len p (ys ++ x ∷ zs) ≤ length ys → cond b (1 + prefix_len p (ys ++ x ∷ zs)) 0 ≤ suc (length ys)
      by true rest = omega (arith, rest)
      by false rest = omega arith

  suffix_within : (front zs after : List ℕ) → reverse front ≡ x ∷ zs → suffix_len p (front ++ after) ≤ length after
  suffix_within front zs after turned =
      omega (arith, ap (prefix_len p) (reverse-append front after ∙ ap (λ r. reverse after ++ r) turned), prefix_within (reverse after) zs, length-reverse after)

take_past : (front after : List ℕ) (n : ℕ) → take (n + length front) (front ++ after) ≡ front ++ take n after
take_past [] after n = let same : n + 0 ≡ n = omega arith in ap (λ m. take m after) same
take_past (b ∷ front) after n =
    let more : n + length (b ∷ front) ≡ suc (n + length front) = omega arith in
    ap (λ m. take m (b ∷ (front ++ after))) more ∙ ap (λ bs. b ∷ bs) (take_past front after n)

-- the folder of what lies below `_posts`
posts_folder : (after : List ℕ) → (n : ℕ) × (folder (codes "_posts/" ++ after) ≡ codes "_posts" ++ take n (47 ∷ after))
posts_folder after =
    let path = codes "_posts/" ++ after in
    let last = suffix_len (λ b. not (b == 47)) path in
    let within : last ≤ length after = suffix_within (λ b. not (b == 47)) 47 refl (codes "_posts/") (codes "stsop_") after refl in
    (length after - last, ap (λ n. take n path) {x = length path - last - 1} {y = length after - last + 6} (omega (arith, within, length-append (codes "_posts/") after)) ∙ take_past (codes "_posts") (47 ∷ after) (length after - last))

folder_named : (after : List ℕ) (n : ℕ) → list_any (bytes_eq (codes "_posts")) (segments (codes "_posts" ++ take n (47 ∷ after))) ≡ true
folder_named after zero = refl
folder_named after (suc n) = refl

none_counted : (p : List ℕ → Bool) (n : ℕ) (xs : List (List ℕ)) → list_any p xs ≡ false → fold (λ a x. a + cond (p x) 1 0) n xs ≡ n
none_counted p n [] none = refl
none_counted p n (x ∷ xs) none = by (p x) none (none_counted p n xs)
  where
    by : (b : Bool) → (b || list_any p xs) ≡ false → (list_any p xs ≡ false → fold (λ a y. a + cond (p y) 1 0) n xs ≡ n) → fold (λ a y. a + cond (p y) 1 0) (n + cond b 1 0) xs ≡ n
    by true is rest = absurd (cc (is))
    by false is rest = let same : n + 0 ≡ n = omega arith in ap (λ m. fold (λ a y. a + cond (p y) 1 0) m xs) same ∙ rest is

-- whoever lies below the folder of the first collection lies below `_posts`
below_posts : (brought : Bool) (after : List ℕ) → (brought || not (has_hidden_segment after)) ≡ true → lies_in_posts brought (codes "_posts/" ++ after) ≡ true
unfolding lies_in_posts
below_posts brought after e =
    let at = posts_folder after in
    let named : list_any (bytes_eq (codes "_posts")) (segments (folder (codes "_posts/" ++ after))) ≡ true =
    ap (λ f. list_any (bytes_eq (codes "_posts")) (segments f)) at.1 ∙ folder_named after at.0 in
    ap (λ b. b && (brought || (count_by is_hidden (segments (codes "_posts/" ++ after)) == 1))) named ∙ alone brought (has_hidden_segment after) refl e
  where
    alone : (b hidden : Bool) → has_hidden_segment after ≡ hidden → (b || not hidden) ≡ true → (b || (count_by is_hidden (segments (codes "_posts/" ++ after)) == 1)) ≡ true
    alone true hidden is e = refl
    alone false true is e = absurd (cc (e))
    alone false false is e = ap (λ n. n == 1) (none_counted is_hidden 1 (segments after) is)

both_true : (a b : Bool) → (a && b) ≡ true → (a ≡ true) × (b ≡ true)
both_true true b is = (refl, is)
both_true false b is = absurd (cc (is))

below_is : (path root : List ℕ) → is_below path root ≡ true → (after : List ℕ) × (path ≡ root ++ 47 ∷ after)
below_is [] root below = absurd (cc (below))
below_is (b ∷ path) [] below = let same : b ≡ 47 = eqb-true b 47 below in (path, ap (λ c. c ∷ path) same)
below_is (b ∷ path) (c ∷ root) below =
    let is = both_true (c == b) (is_below path root) below in
    let same : c ≡ b = eqb-true c b is.0 in
    let rest = below_is path root is.1 in
    (rest.0, ap (λ d. d ∷ path) (sym same) ∙ ap (λ ds. c ∷ ds) rest.1)

drop_past : (front after : List ℕ) → drop (length front + 1) (front ++ 47 ∷ after) ≡ after
drop_past [] after = refl
drop_past (b ∷ front) after =
    let more : length (b ∷ front) + 1 ≡ suc (length front + 1) = omega arith in
    ap (λ m. drop m (b ∷ (front ++ 47 ∷ after))) more ∙ drop_past front after

first_folder : (brought : Bool) (path : List ℕ) (first : Collection) → first.name ≡ codes "posts" → is_folder_of brought path first ≡ true → lies_in_posts brought path ≡ true
unfolding is_folder_of lies_in
first_folder brought [] first named e = absurd (cc (e))
first_folder brought (b ∷ path) first named e =
    let all = both_true (b == 95) _ e in
    let within = both_true (is_below path first.name) _ all.1 in
    let same : b ≡ 95 = eqb-true b 95 all.0 in
    let below = below_is path first.name within.0 in
    let rest : (brought || not (has_hidden_segment below.0)) ≡ true =
    ap (λ ds. brought || not (has_hidden_segment ds)) (sym (drop_past first.name below.0) ∙ ap (drop (length first.name + 1)) (sym below.1)) ∙ within.1 in
    ap (lies_in_posts brought) (ap (λ c. c ∷ path) same ∙ ap (λ ds. 95 ∷ ds) (below.1 ∙ ap (λ name. name ++ 47 ∷ below.0) named)) ∙ below_posts brought below.0 rest

-- ---- kinds by places

-- a post's name begins with a date, and the folder of the first collection has posts alone
abbrev pub Stands : Config → List ℕ → Option Kind → Type 0
Stands config path (Some kind.Post) = is_some (name_date config.timezone (stem (file_name path))) ≡ true
Stands config path (Some (kind.Document zero)) = ⊥
Stands config path other = Unit {0}

module _ (config : Config) (path : List ℕ) where
  abbrev Fits : Place → Type 0
  Fits at = Stands config path (item_kind at)

  if_fits : (b : Bool) (p q : Place) → (b ≡ true → Fits p) → (b ≡ false → Fits q) → Fits (if b then p else q)
  if_fits true p q here there = here refl
  if_fits false p q here there = there refl

  named_date : (named : Option (ℤ × List ℕ)) (more : Bool) → (has_title named && more) ≡ true → is_some (option_map (λ parts. parts.0) named) ≡ true
  named_date None more e = absurd (cc (e))
  named_date (Some parts) more e = refl

  post_fits : Fits (post_place config.timezone path)
  unfolding post_place
  post_fits = if_fits (is_post_name config.timezone (file_name path)) place.Post place.Nowhere (λ e. named_date (dated_name config.timezone (stem (file_name path))) _ e) (λ _. tt)

  common_fits : (brought : Bool) → Fits (common_place brought path)
  unfolding common_place
  common_fits brought = if_fits (brought || not (has_hidden_segment path)) place.Common place.Nowhere (λ _. tt) (λ _. tt)

  later_fits : (n : ℕ) → 1 ≤ n → Fits (place.Collection n)
  later_fits zero least = absurd (omega (arith, least))
  later_fits (suc n) least = tt

  one_fits : (brought : Bool) (n many : ℕ) → 1 ≤ n → Fits (place_in (cond (nat_lt n many) (Some n) None) (common_place brought path))
  one_fits brought n many least = by (nat_lt n many)
    where
      by : (b : Bool) → Fits (place_in (cond b (Some n) None) (common_place brought path))
      by true = later_fits n least
      by false = common_fits brought

  -- the place of the collection that has the file, where the first of all has not
  abbrev first_of : (Collection → Bool) → List Collection → Bool → ℕ
  first_of test others b = cond (not b) (1 + position_or_len test others) 0

  collection_fits : HasPosts config → (brought : Bool) → lies_in_posts brought path ≡ false → Fits (place_in (position (is_folder_of brought path) config.collections) (common_place brought path))
  collection_fits posts brought none =
      subst (λ cs. Fits (place_in (position (is_folder_of brought path) cs) (common_place brought path))) (sym posts.are) (by (is_folder_of brought path posts.first) refl)
    where
      by : (b : Bool) → is_folder_of brought path posts.first ≡ b
          → Fits (place_in (cond (nat_lt (first_of (is_folder_of brought path) posts.others b) (length (posts.first ∷ posts.others))) (Some (first_of (is_folder_of brought path) posts.others b)) None) (common_place brought path))
      by true is = absurd (cc (none, first_folder brought path posts.first posts.is_posts is))
      by false is = one_fits brought (1 + position_or_len (is_folder_of brought path) posts.others) (length (posts.first ∷ posts.others)) (omega arith)

  pub place_fits : HasPosts config → (drafts : Bool) → Fits (place_of config drafts path)
  place_fits posts drafts =
      let brought = is_brought_in config.include path in
      if_fits (bytes_eq path (codes "_config.yml")) place.Configuration _ (λ _. tt) (λ _.
      if_fits (not brought && is_taken_out config.exclude path) place.Nowhere _ (λ _. tt) (λ _.
      if_fits (lies_in (codes "_layouts") brought path) place.Layout _ (λ _. tt) (λ _.
      if_fits (lies_in (codes "_includes") brought path) place.Include _ (λ _. tt) (λ _.
      if_fits (lies_in (codes "_data") brought path) place.Data _ (λ _. tt) (λ _.
      if_fits (lies_in_posts brought path) (post_place config.timezone path) _ (λ _. post_fits) (λ none.
      if_fits (drafts && lies_in (codes "_drafts") brought path) place.Draft _ (λ _. tt) (λ _. collection_fits posts brought none)))))))

  pub matter_stands : (at : Place) (matter : Front) → Fits at → Stands config path (kind_at at matter)
  matter_stands at matter fits = by (has_matter matter)
    where
      by : (b : Bool) → Stands config path (if b then item_kind at else None)
      by true = fits
      by false = tt

-- ---- what a post is

there : (moment : Option ℤ) → is_some moment ≡ true → (date : ℤ) × (moment ≡ Some date)
there None is = absurd (cc (is))
there (Some date) is = (date, refl)

module _ (config : Config) (path : List ℕ) (posts : HasPosts config) where
  no_pages : (kind : Kind) (part : ℕ) (moment : Option ℤ) → length config.collections ≡ 0 → IsPost kind part moment
  no_pages kind part moment none = absurd (omega (arith, none, ap (λ (cs : List Collection). length cs) posts.are))

  given_or : (given named : Option ℤ) → is_some named ≡ true → is_some (option_or given named) ≡ true
  given_or None named is = is
  given_or (Some moment) named is = refl

  dated_post : (kind : Kind) (moment : Option ℤ) → is_page kind ≡ false → is_some moment ≡ true → IsPost kind 0 moment
  dated_post kind moment document is = let date = there moment is in record { document = document; whole = refl; date = date.0; dated = date.1 }

  own_draft : (moment : Option ℤ) → not (is_some moment) ≡ false → is_some moment ≡ true
  own_draft None is = absurd (cc (is))
  own_draft (Some moment) is = refl

  -- of a moment of its own
  pub own_post : (k : Kind) (given : Option ℤ) → Stands config path (Some k) → has_present k (document_date config.timezone k (stem (file_name path)) given) ≡ false → group_of config k ≡ 0
      → IsPost k 0 (document_date config.timezone k (stem (file_name path)) given)
  own_post kind.Page given stands own first = no_pages kind.Page 0 None first
  own_post kind.Post given stands own first = dated_post kind.Post _ refl (given_or given _ stands)
  own_post kind.Draft given stands own first = dated_post kind.Draft _ refl (own_draft _ own)
  own_post (kind.Document zero) given stands own first = absurd stands
  own_post (kind.Document (suc n)) given stands own first = absurd (cc (first))

  -- of the present moment, as drafts without one of their own are
  pub present_post : (k : Kind) (moment : Option ℤ) (now : ℤ) → has_present k moment ≡ true → IsPost k 0 (Some now)
  present_post kind.Draft moment now is = dated_post kind.Draft (Some now) refl refl
  present_post kind.Page moment now is = absurd (cc (is))
  present_post kind.Post moment now is = absurd (cc (is))
  present_post (kind.Document n) moment now is = absurd (cc (is))

-- an item of the first group is a document, and no page that is generated
pub post_is_document : {config : Config} {i : SiteItem} (has : HasVariables config i) → i.group ≡ 0 → (is_page has.kind ≡ false) × (i.name.part ≡ 0)
post_is_document has first = let post = has.post first in (post.document, post.whole)
