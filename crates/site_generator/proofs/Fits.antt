-- No file of the site is refused.
use Rattle.std.proofs.Common.{◌≡◌, ℕ, zero, suc, ◌+◌, ◌*◌, ◌%◌, ◌<◌, ◌≤◌, Bool, true, false, cond, List, ◌++◌, length, refl, ap, sym, subst, ◌∙◌, arith, None, Some, codes, length-append}
use Rattle.std.specs.Prelude.{◌||◌}
use Rattle.std.specs.Option.{is_some, option_or}
use Rattle.std.specs.Fmt.{decimal}
use Rattle.std.specs.FinMap.{contains_key, contains_key-keys, empty, get-empty, insert, keys, len, len-empty, len-insert}
use Rattle.std.proofs.lemmas.Bool.{le-ltb}
use Rattle.std.proofs.lemmas.Fmt.{length-decimal-le}
use Rattle.std.proofs.lemmas.Nat.{mod_below}
use Rattle.site_base.specs.Clash.{has_below, has_folder, is_below}
use Rattle.site_base.specs.Places.{Files, path_cmp, same_path}
use Rattle.source_tree.specs.Limits.{site_bytes}
use Rattle.source_tree.specs.Put.{clash_refusal, passed_limit, put_refusal}
use Rattle.source_tree.specs.declared.put_error.PutError.TheVariants.{Clash}
use Rattle.source_tree.proofs.Clashing.{contains-insert, same, some_any}
use Rattle.source_tree.proofs.Holding.{site_bytes-empty}
use Rattle.source_tree.proofs.Sums.{o, site_bytes-insert}
use Rattle.site_generator.specs.Generator.{edited_bytes, edited_path, layout_bytes, layout_path, made_site, numbered_title, page_bytes, page_path, post_bytes, post_path, title_of}
use Rattle.site_generator.proofs.Digits.{IsTidy, apart, tidy-post}

-- at most so many files, all short, and with tidy paths
pub record Few (files : Files) (most : ℕ) : Type 0 where
  pub number : len files ≤ most
  pub bytes : site_bytes files ≤ 100 * most
  pub tidy : (path : List ℕ) → contains_key files path ≡ true → IsTidy path

pub few-empty : Few empty 0
few-empty = record {
  number = omega (arith, len-empty path_cmp (List ℕ));
  bytes = omega (arith, site_bytes-empty);
  tidy = λ path there. absurd (cc (ap is_some (get-empty {X = List ℕ} path_cmp path), there));
}

few-insert : (files : Files) (most : ℕ) (path bytes : List ℕ) → Few files most → IsTidy path → length bytes ≤ 100 → Few (insert files path bytes) (most + 1)
few-insert files most path bytes few tidy short = record {
  number = counted (contains_key files path) (len-insert o files path bytes);
  bytes = omega (arith, site_bytes-insert files path bytes, few.bytes, short);
  tidy = λ q there. by q (same_path q path) refl (sym (contains-insert files path bytes q) ∙ there);
}
  where
    counted : (b : Bool) → len (insert files path bytes) ≡ cond b (len files) (len files + 1) → len (insert files path bytes) ≤ most + 1
    counted true is = omega (arith, is, few.number)
    counted false is = omega (arith, is, few.number)

    by : (q : List ℕ) (b : Bool) → same_path q path ≡ b → cond b true (contains_key files q) ≡ true → IsTidy q
    by q true e there = subst IsTidy (sym (same q path e)) tidy
    by q false e there = few.tidy q there

within_limits : (bytes files total : ℕ) → bytes ≤ 16777216 → files ≤ 50000 → total ≤ 536870912 → passed_limit bytes files total ≡ None
within_limits bytes files total a b c = rw (le-ltb 16777216 bytes a, le-ltb 50000 files b, le-ltb 536870912 total c) refl

no_clash : (files : Files) (most : ℕ) (path : List ℕ) → Few files most → IsTidy path → clash_refusal files path ≡ None
no_clash files most path few tidy = ap (λ (b : Bool). cond (b || has_below path (keys files)) (Some Clash) None) (no_folder _ refl) ∙ ap (λ (b : Bool). cond b (Some Clash) None) (none_below _ refl)
  where
    no_folder : (b : Bool) → has_folder path (keys files) ≡ b → has_folder path (keys files) ≡ false
    no_folder false e = e
    no_folder true e =
        let found = some_any (λ f. is_below path f) (keys files) e in
        absurd (apart path found.path tidy (few.tidy found.path (contains_key-keys files found.path ∙ found.there)) found.passes)

    none_below : (b : Bool) → has_below path (keys files) ≡ b → has_below path (keys files) ≡ false
    none_below false e = e
    none_below true e =
        let found = some_any (λ p. is_below p path) (keys files) e in
        absurd (apart found.path path (few.tidy found.path (contains_key-keys files found.path ∙ found.there)) tidy found.passes)

pub not_refused : (files : Files) (most : ℕ) (path bytes : List ℕ) → Few files most → most ≤ 1002 → IsTidy path → length bytes ≤ 100 → put_refusal files path bytes ≡ None
not_refused files most path bytes few le tidy short =
    let after = few-insert files most path bytes few tidy short in
    ap (λ r. option_or r (clash_refusal files path)) (within_limits (length bytes) (len (insert files path bytes)) (site_bytes (insert files path bytes)) (omega arith) (omega (arith, after.number, le)) (omega (arith, after.bytes, le)))
    ∙ no_clash files most path few tidy

pub title-below : (number post : ℕ) → title_of number post < 2147483648
title-below number zero = omega arith
title-below number (suc post) = omega arith

post-short : (title : ℕ) → title < 2147483648 → length (post_bytes (numbered_title title)) ≤ 100
post-short title lt =
    omega (arith, length-append (codes "T" ++ decimal title) (codes "\n---\n*n* {{ page.title }}\n"), length-decimal-le 10 title (omega arith) (omega arith) (omega arith))

tidy-layout : IsTidy layout_path
tidy-layout = record { dotted = refl; ends = refl }

tidy-page : IsTidy page_path
tidy-page = record { dotted = refl; ends = refl }

pub few-layout : Few (insert empty layout_path layout_bytes) 1
few-layout = few-insert empty 0 layout_path layout_bytes few-empty tidy-layout (omega arith)

pub layout-put : put_refusal empty layout_path layout_bytes ≡ None
layout-put = not_refused empty 0 layout_path layout_bytes few-empty (omega arith) tidy-layout (omega arith)

pub page-put : put_refusal (insert empty layout_path layout_bytes) page_path page_bytes ≡ None
page-put = not_refused (insert empty layout_path layout_bytes) 1 page_path page_bytes few-layout (omega arith) tidy-page (omega arith)

few-made : (number posts : ℕ) → posts ≤ 1000 → Few (made_site number posts) (posts + 2)
few-made number zero le = few-insert (insert empty layout_path layout_bytes) 1 page_path page_bytes few-layout tidy-page (omega arith)
few-made number (suc posts) le =
    let e : (posts + 2) + 1 ≡ suc posts + 2 = omega arith in
    subst (Few (made_site number (suc posts))) e
    (few-insert (made_site number posts) (posts + 2) (post_path posts) (post_bytes (numbered_title (title_of number posts))) (few-made number posts (omega (arith, le)))
    (tidy-post posts (omega (arith, le))) (post-short (title_of number posts) (title-below number posts)))

-- the next post is not refused
post-put : (number posts : ℕ) → posts < 1000 → put_refusal (made_site number posts) (post_path posts) (post_bytes (numbered_title (title_of number posts))) ≡ None
post-put number posts lt =
    not_refused (made_site number posts) (posts + 2) (post_path posts) (post_bytes (numbered_title (title_of number posts))) (few-made number posts (omega (arith, lt))) (omega (arith, lt))
    (tidy-post posts (omega (arith, lt))) (post-short (title_of number posts) (title-below number posts))

pub post-put-is : (number posts title : ℕ) (files : Files) (path bytes : List ℕ) → posts < 1000 → files ≡ made_site number posts → title ≡ title_of number posts → path ≡ post_path posts → bytes ≡ post_bytes (numbered_title title) → put_refusal files path bytes ≡ None
post-put-is number posts title files path bytes lt files_is title_is path_is bytes_is =
    ap (λ (m : Files). put_refusal m path bytes) files_is ∙ ap (λ (p : List ℕ). put_refusal (made_site number posts) p bytes) path_is
    ∙ ap (λ (b : List ℕ). put_refusal (made_site number posts) (post_path posts) b) (bytes_is ∙ ap (λ (n : ℕ). post_bytes (numbered_title n)) title_is)
    ∙ post-put number posts lt

-- nor is the edit
pub edit-put : (number count : ℕ) → 1 ≤ count → count ≤ 1000 → put_refusal (made_site number count) (edited_path number count) edited_bytes ≡ None
edit-put number count low high =
    let below : number % count < count = mod_below number count (omega (arith, low)) in
    not_refused (made_site number count) (count + 2) (edited_path number count) edited_bytes (few-made number count high) (omega (arith, high)) (tidy-post (number % count) (omega (arith, below, high))) (omega arith)
