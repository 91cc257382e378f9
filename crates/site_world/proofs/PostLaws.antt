-- Posts that are noted under two names.
use Rattle.std.proofs.Common.{◌≡◌, ◌==◌, ℕ, Bool, true, false, cond, ◌&&◌, ◌||◌, nat_lt, List, [], ◌∷◌, ◌++◌, length, Option, Some, None, refl, sym, ap, ◌∙◌}
use Rattle.std.proofs.lemmas.Slice.Eq.{bytes_eq-Decides}
use Rattle.std.proofs.lemmas.List.Sums.{fold-append}
use Rattle.std.specs.Ordering.{is_lt}
use Rattle.std.specs.Str.{bytes_eq}
use Rattle.site_base.specs.Places.{path_cmp}
use Rattle.site_files.specs.Names.{file_name, stem}
use Rattle.site_reader.specs.declared.site_item.SiteItem.{SiteItem}
use Rattle.site_world.specs.Sights.{below_posts, is_post_named, lower, post_named}

either-one : (b : Bool) (item : SiteItem) → cond b item item ≡ item
either-one true item = refl
either-one false item = refl

itself : (item : SiteItem) → lower (Some item) item ≡ item
itself item = either-one (is_lt (path_cmp item.name.path item.name.path)) item

again : (found : Option SiteItem) (item : SiteItem) → lower (Some (lower found item)) item ≡ lower found item
again None item = itself item
again (Some first) item = at (is_lt (path_cmp item.name.path first.name.path)) refl
  where
    at : (b : Bool) → is_lt (path_cmp item.name.path first.name.path) ≡ b → lower (Some (cond b item first)) item ≡ cond b item first
    at true e = itself item
    at false e = ap (λ c. cond c item first) e

-- an item that is noted under one name, and then under another
pub noted-twice : (a b : Bool) (found : Option SiteItem) (item : SiteItem)
    → cond b (Some (lower (cond a (Some (lower found item)) found) item)) (cond a (Some (lower found item)) found) ≡ cond (a || b) (Some (lower found item)) found
noted-twice true true found item = ap (λ (i : SiteItem). Some i) (again found item)
noted-twice true false found item = refl
noted-twice false b found item = refl

-- what stands under the name is what the update goes by
pub by_name : {A : Type 0} (u : Option A → A) (f : List ℕ → Option A) (name x : List ℕ) (o : Option A) → f name ≡ o
    → cond (bytes_eq name x) (Some (u o)) (f x) ≡ cond (bytes_eq name x) (Some (u (f x))) (f x)
by_name u f name x o e = at (bytes_eq name x) refl
  where
    at : (b : Bool) → bytes_eq name x ≡ b → cond b (Some (u o)) (f x) ≡ cond b (Some (u (f x))) (f x)
    at true t = let here : name ≡ x = (bytes_eq-Decides name x).0 t in ap (λ p. Some (u p)) (sym e ∙ ap f here)
    at false t = refl

-- the empty name is none
pub no-name : {A : Type 0} (name x : List ℕ) (v o : A) → length name ≡ 0 → o ≡ cond (bytes_eq name x && nat_lt 0 (length x)) v o
no-name name x v o e = at (bytes_eq name x) refl
  where
    at : (b : Bool) → bytes_eq name x ≡ b → o ≡ cond (b && nat_lt 0 (length x)) v o
    at true t = let none : 0 ≡ length x = sym e ∙ ap length ((bytes_eq-Decides name x).0 t) in ap (λ n. cond (nat_lt 0 n) v o) none
    at false t = refl

pub some-name : {A : Type 0} (name x : List ℕ) (v o : A) → nat_lt 0 (length name) ≡ true → cond (bytes_eq name x) v o ≡ cond (bytes_eq name x && nat_lt 0 (length x)) v o
some-name name x v o e = at (bytes_eq name x) refl
  where
    at : (b : Bool) → bytes_eq name x ≡ b → cond b v o ≡ cond (b && nat_lt 0 (length x)) v o
    at true t = let some : true ≡ nat_lt 0 (length x) = sym e ∙ ap (λ y. nat_lt 0 (length y)) ((bytes_eq-Decides name x).0 t) in ap (λ b. cond b v o) some
    at false t = refl

pub post-push : (x : List ℕ) (items : List SiteItem) (item : SiteItem)
    → post_named x (items ++ item ∷ []) ≡ cond (is_post_named x item) (Some (lower (post_named x items) item)) (post_named x items)
post-push x items item = fold-append (λ found item. cond (is_post_named x item) (Some (lower found item)) found) None items (item ∷ [])

-- a post that is noted under both its names
pub noted : (f under_file under_both : List ℕ → Option SiteItem) (item : SiteItem) (file below : List ℕ) → item.group ≡ 0 → file ≡ stem (file_name item.name.path) → below ≡ below_posts item.name.path
    → ((x : List ℕ) → under_file x ≡ cond (bytes_eq file x) (Some (lower (f x) item)) (f x))
    → ((x : List ℕ) → under_both x ≡ cond (bytes_eq below x && nat_lt 0 (length x)) (Some (lower (under_file x) item)) (under_file x))
    → (x : List ℕ) → under_both x ≡ cond (is_post_named x item) (Some (lower (f x) item)) (f x)
noted f under_file under_both item file below post is_file is_below first second x =
    let path = item.name.path in
    let by_below : Bool = bytes_eq (below_posts path) x && nat_lt 0 (length x) in
    let by_file : Bool = bytes_eq (stem (file_name path)) x in
    second x
    ∙ ap (λ (b : List ℕ). cond (bytes_eq b x && nat_lt 0 (length x)) (Some (lower (under_file x) item)) (under_file x)) is_below
    ∙ ap (λ (o : Option SiteItem). cond by_below (Some (lower o item)) o) (first x ∙ ap (λ (s : List ℕ). cond (bytes_eq s x) (Some (lower (f x) item)) (f x)) is_file)
    ∙ noted-twice by_file by_below (f x) item
    ∙ ap (λ (g : ℕ). cond ((g == 0) && (by_file || by_below)) (Some (lower (f x) item)) (f x)) (sym post)

-- an item of another group is no post
pub no_post : (x : List ℕ) (item : SiteItem) (o : Option SiteItem) → (item.group == 0) ≡ false → o ≡ cond (is_post_named x item) (Some (lower o item)) o
no_post x item o e =
    let path = item.name.path in
    let rest : Bool = bytes_eq (stem (file_name path)) x || (bytes_eq (below_posts path) x && nat_lt 0 (length x)) in
    sym (ap (λ b. cond (b && rest) (Some (lower o item)) o) e)
