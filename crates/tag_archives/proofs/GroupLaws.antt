-- Groups of posts: what a post adds to one, and what one of its names adds to all.
use Rattle.std.proofs.Common.{◌≡◌, ◌∙◌, refl, ap, sym, ℕ, suc, ◌≤◌, Bool, true, false, cond, ◌||◌, ◌==◌, List, [], ◌∷◌, length, map, Option, Some, None, option_map, arith}
use Rattle.std.specs.Prelude.{OnOk, Result, Ok, Err, T, unwrap_or}
use Rattle.std.specs.BTreeMap.{insert_entry}
use Rattle.std.specs.FinMap.{find, is_sorted}
use Rattle.std.specs.List.{list_any}
use Rattle.std.specs.Str.{bytes_eq}
use Rattle.std.proofs.lemmas.Bool.Decides.{nat_tests}
use Rattle.std.proofs.lemmas.List.Folds.{list_any-append}
use Rattle.permalinks.specs.Slug.{nonempty, slug}
use Rattle.site_base.specs.Places.{path_cmp, same_path}
use Rattle.site_base.specs.Plain.{Plain, Items, no_items, item, onto}
use Rattle.site_base.specs.Values.{value_text}
use Rattle.site_base.specs.declared.item_name.ItemName.{ItemName}
use Rattle.tag_archives.specs.Archives.{by_path, first_name, is_long, newest_first, page_path, post_item}
use Rattle.tag_archives.specs.Gathering.{group_at, group_of, groups_of, has_long, joined, joined_at, no_group, page_at, since, with_name}
use Rattle.tag_archives.specs.Listing.{is_in}
use Rattle.tag_archives.specs.Slugs.{all_names, has_slug, is_of, names}
use Rattle.tag_archives.specs.declared.archive.ArchivePost.{ArchivePost}
use Rattle.tag_archives.specs.declared.archive.ArchiveWord.{ArchiveWord}
use Rattle.tag_archives.specs.declared.archive.ArchiveWord.TheVariants.{Tag, Category}
use Rattle.tag_archives.specs.declared.group.Group.{Group}
use Rattle.tag_archives.proofs.EntryLaws.{found_inserted, found_mapped, inserted_twice, lookup_is, mapped, same_found, same_path_itself, sorted_inserted, sorted_mapped}
use Rattle.tag_archives.proofs.PathLaws.{empty_in, found_by_path, in_slugs, itself, path_found, same_bytes, slug_at, slug_found, sorted_by_path}

pub on_ok : {A E : Type 0} {P Q : Type 0} (r : Result A E) → (P → Q) → OnOk r P → OnOk r Q
on_ok (Ok a) f p = f p
on_ok (Err e) f p = tt

-- a group that was taken out, and put back with a post
pub joined_back : (old taken new : List (List ℕ × Group)) (path s name : List ℕ) (post : Plain) (number : ℕ) (group made : Group)
    → taken ≡ insert_entry path_cmp old path no_group → group ≡ group_at path old → made ≡ joined s name post number group → new ≡ insert_entry path_cmp taken path made
    → new ≡ insert_entry path_cmp old path (joined s name post number (group_at path old))
joined_back old taken new path s name post number group made rest is joins put =
    put ∙ ap (λ t. insert_entry path_cmp t path made) rest ∙ inserted_twice old path no_group made
    ∙ ap (insert_entry path_cmp old path) (joins ∙ ap (joined s name post number) is)

-- ---- posts that have a slug

-- from no post on there are more than there are posts
since_within : (s : List ℕ) (posts : List ArchivePost) → since s posts ≤ length posts
since_within s [] = omega arith
since_within s (post ∷ posts) = by (has_slug s post) (since_within s posts)
  where
    by : (b : Bool) → since s posts ≤ length posts → cond b (suc (length posts)) (since s posts) ≤ suc (length posts)
    by true le = omega arith
    by false le = omega (arith, le)

record Lacks (s : List ℕ) (posts : List ArchivePost) : Type 0 where
  nothing : newest_first s posts ≡ no_items
  nowhere : since s posts ≡ 0

halves : (a b : Bool) → (a || b) ≡ false → (a ≡ false) × (b ≡ false)
halves true b e = absurd (cc (e))
halves false b e = (refl, e)

lacks : (s : List ℕ) (posts : List ArchivePost) → list_any (is_of s) (all_names posts) ≡ false → Lacks s posts
lacks s [] e = record { nothing = refl; nowhere = refl }
lacks s (post ∷ posts) e =
    let h = halves (has_slug s post) (list_any (is_of s) (all_names posts)) (sym (list_any-append (is_of s) (names post) (all_names posts)) ∙ e) in
    let later = lacks s posts h.1 in
    record { nothing = rw (h.0) later.nothing; nowhere = rw (h.0) later.nowhere }

module _ (name : ItemName) (t : Plain) (ts : Items) (newer : List ArchivePost) where
  abbrev before : List ArchivePost
  before = record { name = name; terms = ts } ∷ newer

  abbrev after : List ArchivePost
  after = record { name = name; terms = item t ts } ∷ newer

  abbrev text : List ℕ
  text = value_text t

  abbrev post : Plain
  post = post_item (record { name = name; terms = ts })

  abbrev number : ℕ
  number = suc (length newer)

  -- the group, where the name has its slug or not
  abbrev group_by : List ℕ → Bool → Bool → Group
  group_by s b h = record {
    title = cond b text (first_name s (all_names before));
    slug = s;
    posts = cond (b || h) (onto (newest_first s newer) (item post no_items)) (newest_first s newer);
    since = cond (b || h) number (since s newer);
  }

  after_is : (s : List ℕ) → group_of after s ≡ group_by s (is_of s text) (has_slug s (record { name = name; terms = ts }))
  after_is s = refl

  before_is : (s : List ℕ) → group_of before s ≡ group_by s false (has_slug s (record { name = name; terms = ts }))
  before_is s = refl

  others_stay : (s : List ℕ) → is_of s text ≡ false → group_of before s ≡ group_of after s
  others_stay s e = ap (λ b. group_by s b (has_slug s (record { name = name; terms = ts }))) (sym e)

  joins : (s : List ℕ) → is_of s text ≡ true → joined s text post number (group_of before s) ≡ group_of after s
  joins s e = by (has_slug s (record { name = name; terms = ts })) ∙ ap (λ b. group_by s b (has_slug s (record { name = name; terms = ts }))) (sym e)
    where
      by : (h : Bool) → joined s text post number (group_by s false h) ≡ group_by s true h
      by true = let same : (number == number) ≡ true = grind (arith, nat_tests) in rw same refl
      by false = let apart : (since s newer == number) ≡ false = grind (arith, nat_tests, since_within s newer) in rw apart refl

  -- a group that would be begun is like one of no posts
  begins : (s : List ℕ) → list_any (is_of s) (all_names before) ≡ false → joined s text post number no_group ≡ joined s text post number (group_of before s)
  begins s e = let l = lacks s before e in
      let same : (0 == number) ≡ (since s before == number) = ap (λ n. n == number) (sym l.nowhere) in
      λ i. record { title = text; slug = s; posts = cond (same i) (sym l.nothing i) (onto (sym l.nothing i) (item post no_items)); since = number }

  -- ---- all groups

  abbrev others : List (List ℕ)
  others = map slug (all_names before)

  -- a group that the slug of the name has not is as it was
  stays : (word : ArchiveWord) (q s : List ℕ) (o : Option (List ℕ)) → slug text ≡ s → ((u : List ℕ) → o ≡ Some u → bytes_eq s u ≡ false) → option_map (group_of before) o ≡ option_map (group_of after) o
  stays word q s None e apart = refl
  stays word q s (Some u) e apart = ap (λ g. Some g) (others_stay u (ap (λ v. bytes_eq v u) e ∙ apart u refl))

  abbrev entries_by : (List ℕ → Group) → ArchiveWord → List (List ℕ) → List (List ℕ × Group)
  entries_by f word ss = mapped f (by_path word ss)

  found_by : (f : List ℕ → Group) (word : ArchiveWord) (q : List ℕ) (ss : List (List ℕ)) → find path_cmp q (entries_by f word ss) ≡ option_map f (slug_at word q ss)
  found_by f word q ss = found_mapped f q (by_path word ss) ∙ ap (option_map f) (found_by_path word q ss)

  sorted_by : (f : List ℕ → Group) (word : ArchiveWord) (ss : List (List ℕ)) → T (is_sorted path_cmp (entries_by f word ss))
  sorted_by f word ss = sorted_mapped f (by_path word ss) (sorted_by_path word ss)

  -- a name without a slug
  no_slug : (word : ArchiveWord) → slug text ≡ [] → entries_by (group_of before) word (nonempty others) ≡ entries_by (group_of after) word (nonempty others)
  no_slug word e = same_found _ _ (sorted_by (group_of before) word (nonempty others)) (sorted_by (group_of after) word (nonempty others)) (λ q.
      found_by (group_of before) word q (nonempty others)
      ∙ stays word q [] (slug_at word q (nonempty others)) e (λ u is. apart u (path_found word q u (nonempty others) is).1)
      ∙ sym (found_by (group_of after) word q (nonempty others)))
    where
      apart : (u : List ℕ) → is_in u (nonempty others) ≡ true → bytes_eq [] u ≡ false
      apart [] is = let t : false ≡ true = sym (empty_in others) ∙ is in absurd (cc (t))
      apart (c ∷ cs) is = refl

  -- the group of the slug, from which the post is added
  group_there : (word : ArchiveWord) (s : List ℕ) → (is_in s (nonempty others) ≡ list_any (is_of s) (all_names before)) → group_at (page_path word s) (groups_of word before) ≡ cond (list_any (is_of s) (all_names before)) (group_of before s) no_group
  group_there word s e =
      ap (λ o. unwrap_or o no_group) (lookup_is (page_path word s) (groups_of word before) ∙ found_by (group_of before) word (page_path word s) (nonempty others) ∙ ap (option_map (group_of before)) (slug_found word s (nonempty others) ∙ ap (λ b. cond b (Some s) None) e))
      ∙ by (list_any (is_of s) (all_names before))
    where
      by : (b : Bool) → unwrap_or (option_map (group_of before) (cond b (Some s) None)) no_group ≡ cond b (group_of before s) no_group
      by true = refl
      by false = refl

  joined_there : (word : ArchiveWord) (s : List ℕ) → slug text ≡ s → (is_in s (nonempty others) ≡ list_any (is_of s) (all_names before)) → joined s text post number (group_at (page_path word s) (groups_of word before)) ≡ group_of after s
  joined_there word s e there =
      ap (joined s text post number) (group_there word s there) ∙ by (list_any (is_of s) (all_names before)) refl ∙ joins s (ap (λ v. bytes_eq v s) e ∙ itself s)
    where
      by : (b : Bool) → list_any (is_of s) (all_names before) ≡ b → joined s text post number (cond b (group_of before s) no_group) ≡ joined s text post number (group_of before s)
      by true p = refl
      by false p = begins s p

  -- a name with a slug
  a_slug : (word : ArchiveWord) (s : List ℕ) (ss : List (List ℕ)) (new : Group) → slug text ≡ s → new ≡ group_of after s
      → insert_entry path_cmp (entries_by (group_of before) word ss) (page_path word s) new ≡ entries_by (group_of after) word (s ∷ ss)
  a_slug word s ss new e is = same_found _ _ (sorted_inserted (page_path word s) new (entries_by (group_of before) word ss) (sorted_by (group_of before) word ss)) (sorted_by (group_of after) word (s ∷ ss)) (λ q.
      found_inserted q (page_path word s) new (entries_by (group_of before) word ss)
      ∙ ap (cond (same_path q (page_path word s)) (Some new)) (found_by (group_of before) word q ss)
      ∙ by q (same_path q (page_path word s)) refl
      ∙ sym (found_by (group_of after) word q (s ∷ ss)))
    where
      apart : (q u : List ℕ) → same_path q (page_path word s) ≡ false → slug_at word q ss ≡ Some u → (b : Bool) → bytes_eq s u ≡ b → b ≡ false
      apart q u f found true same =
          let here : same_path q (page_path word s) ≡ true = ap (same_path q) (ap (page_path word) (same_bytes s u same) ∙ sym (path_found word q u ss found).0) ∙ same_path_itself q in
          let t : false ≡ true = sym f ∙ here in absurd (cc (t))
      apart q u f found false same = refl

      by : (q : List ℕ) (b : Bool) → same_path q (page_path word s) ≡ b → cond b (Some new) (option_map (group_of before) (slug_at word q ss)) ≡ option_map (group_of after) (cond b (Some s) (slug_at word q ss))
      by q true f = ap (λ g. Some g) is
      by q false f = stays word q s (slug_at word q ss) e (λ u found. apart q u f found (bytes_eq s u) refl)

  -- one name more
  pub name_added : (word : ArchiveWord) → with_name word text post number (groups_of word before) ≡ groups_of word after
  name_added word = by (slug text) refl
    where
      by : (s : List ℕ) → slug text ≡ s → joined_at (page_at word s) text post number (groups_of word before) ≡ entries_by (group_of after) word (nonempty (s ∷ others))
      by [] e = no_slug word e
      by (b ∷ bs) e = a_slug word (b ∷ bs) (nonempty others) _ e (joined_there word (b ∷ bs) e (in_slugs b bs (all_names before)))

  pub long_name : (word : ArchiveWord) → has_long word after ≡ (is_long word (slug text) || has_long word before)
  long_name word = by (slug text)
    where
      short : (w : ArchiveWord) → is_long w [] ≡ false
      short Tag = refl
      short Category = refl

      by : (s : List ℕ) → list_any (is_long word) (nonempty (s ∷ others)) ≡ (is_long word s || list_any (is_long word) (nonempty others))
      by [] = ap (λ b. b || list_any (is_long word) (nonempty others)) (sym (short word))
      by (b ∷ bs) = refl
