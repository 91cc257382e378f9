-- That the variables of a site rest on no more than its basis.
use Rattle.std.proofs.Common.{◌≡◌, ◌==◌, ℕ, ◌+◌, ◌<◌, Bool, true, false, cond, not, ◌&&◌, ◌||◌, nat_lt, pos, List, [], ◌∷◌, ◌++◌, length, map, filter, reverse, take, get_or, None, refl, sym, ap, ◌∙◌}
use Rattle.std.specs.Prelude.{codes, fold}
use Rattle.std.proofs.lemmas.List.{map-append, take_more}
use Rattle.std.proofs.lemmas.List.Folds.{fold-map}
use Rattle.site_base.specs.Plain.{Plain, list, hash, site_item, item, Pairs, no_pairs, pair, onto_pairs}
use Rattle.site_base.specs.declared.value.Value.TheVariants as value
use Rattle.site_config.specs.Config.{config, texts_or}
use Rattle.site_config.specs.declared.collection.Collection.{Collection}
use Rattle.site_config.specs.declared.config.Config.{Config}
use Rattle.site_files.specs.Names.{extension, file_name}
use Rattle.site_items.specs.Defaults.{set_all}
use Rattle.site_items.specs.Extensions.{is_page_ext, output_ext}
use Rattle.site_items.specs.declared.static_file.StaticFile.{StaticFile}
use Rattle.site_reader.specs.declared.site.Site.{Site}
use Rattle.site_reader.specs.declared.site_item.SiteItem.{SiteItem}
use Rattle.site_variables.proofs.LabelLaws.{named_turned}
use Rattle.site_variables.specs.Gathering.{backwards}
use Rattle.site_variables.specs.Hashes.{collection_with, collections_from, copied, documents_from}
use Rattle.site_variables.specs.Labels.{before_others}
use Rattle.site_variables.specs.Lists.{each, named, names, posts}
use Rattle.site_variables.specs.Resting.{ItemFacts, IsOn, copy_basis, item_facts}
use Rattle.site_variables.specs.Settings.{settings}
use Rattle.site_variables.specs.Variables.{own_variables, variables}
use Rattle.site_variables.specs.declared.basis.Basis.{Basis}
use Rattle.site_variables.specs.declared.basis.CopyBasis.{CopyBasis}

-- ---- a basis, one element more

pub seen_more : {A B F : Type 0} (seen : A → F) (shown : B → F) (made : List A) (x : A) (ys : List B) (i : ℕ) (y : B) → i < length ys → y ≡ get_or ys i y → map seen made ≡ map shown (take i ys) → seen x ≡ shown y
    → map seen (made ++ x ∷ []) ≡ map shown (take (i + 1) ys)
seen_more seen shown made x ys i y lt at before one =
    map-append seen made (x ∷ [])
    ∙ ap (λ fs. fs ++ seen x ∷ []) before
    ∙ ap (λ f. map shown (take i ys) ++ f ∷ []) one
    ∙ sym (map-append shown (take i ys) (y ∷ []))
    ∙ ap (map shown) (ap (λ z. take i ys ++ z ∷ []) at ∙ sym (take_more ys i y lt))

-- ---- lists of what passes a test

each-map : {X Y : Type 0} (f : X → Y) (value : Y → Plain) (xs : List X) → each (λ x. value (f x)) xs ≡ each value (map f xs)
each-map f value [] = refl
each-map f value (x ∷ xs) = ap (item (value (f x))) (each-map f value xs)

filter-map : {X Y : Type 0} (f : X → Y) (test : Y → Bool) (xs : List X) → map f (filter (λ x. test (f x)) xs) ≡ filter test (map f xs)
filter-map f test [] = refl
filter-map f test (x ∷ xs) =
    elim (test (f x)) as (λ b. map f (cond b (x ∷ filter (λ x. test (f x)) xs) (filter (λ x. test (f x)) xs)) ≡ cond b (f x ∷ filter test (map f xs)) (filter test (map f xs))) [
      | true ↦ ap (λ ys. f x ∷ ys) (filter-map f test xs)
      | false ↦ filter-map f test xs
    ]

-- ---- items that agree in what the variables rest on

abbrev shown : ItemFacts → Plain
shown f = site_item f.name.path f.name.part

module _ (one other : List SiteItem) (same : map item_facts one ≡ map item_facts other) where
  same_chosen : (test : ItemFacts → Bool) → map item_facts (filter (λ i. test (item_facts i)) one) ≡ map item_facts (filter (λ i. test (item_facts i)) other)
  same_chosen test = filter-map item_facts test one ∙ ap (filter test) same ∙ sym (filter-map item_facts test other)

  same_list : (test : ItemFacts → Bool) → each named (filter (λ i. test (item_facts i)) one) ≡ each named (filter (λ i. test (item_facts i)) other)
  same_list test =
      each-map item_facts shown (filter (λ i. test (item_facts i)) one)
      ∙ ap (each shown) (same_chosen test)
      ∙ sym (each-map item_facts shown (filter (λ i. test (item_facts i)) other))

  same_names : (test : ItemFacts → Bool) → names (filter (λ i. test (item_facts i)) one) ≡ names (filter (λ i. test (item_facts i)) other)
  same_names test = ap list (same_list test)

  same_newest : names (reverse (posts one)) ≡ names (reverse (posts other))
  same_newest = ap list (sym (named_turned (posts one)) ∙ ap backwards (same_list (λ f. f.group == 0)) ∙ named_turned (posts other))

  -- a post before all others of each name that it has among these
  abbrev with_facts : (ItemFacts → Plain) → Pairs → ItemFacts → Pairs
  with_facts among groups f = fold (before_others (shown f)) groups (texts_or [] (among f))

  same_labels : (among : ItemFacts → Plain) → fold (λ groups i. with_facts among groups (item_facts i)) no_pairs (posts one) ≡ fold (λ groups i. with_facts among groups (item_facts i)) no_pairs (posts other)
  same_labels among =
      sym (fold-map (with_facts among) item_facts no_pairs (posts one))
      ∙ ap (fold (with_facts among) no_pairs) (same_chosen (λ f. f.group == 0))
      ∙ fold-map (with_facts among) item_facts no_pairs (posts other)

  same_documents : (place : ℕ) (cs : List Collection) → documents_from one place cs ≡ documents_from other place cs
  same_documents place [] = refl
  same_documents place (c ∷ cs) = λ i. pair c.name (same_names (λ f. f.group == place) i) (same_documents (place + 1) cs i)

  same_collections : (place : ℕ) (cs : List Collection) → collections_from one place cs ≡ collections_from other place cs
  same_collections place [] = refl
  same_collections place (c ∷ cs) = λ i. item (collection_with (same_names (λ f. f.group == place) i) c) (same_collections (place + 1) cs i)

-- ---- copied files

abbrev shown_copy : CopyBasis → Plain
shown_copy file = copied (record { path = file.path; url = file.url; dest = None })

same_copies : (one other : List StaticFile) → map copy_basis one ≡ map copy_basis other → each copied one ≡ each copied other
same_copies one other same = each-map copy_basis shown_copy one ∙ ap (each shown_copy) same ∙ sym (each-map copy_basis shown_copy other)

-- ---- the whole

-- a site of a configuration, of these copied files and items
abbrev site_of : Config → List StaticFile → List SiteItem → Site
site_of config statics items = record { config = config; items = items; layouts = []; includes = []; data_tree = value.Nil; statics = statics; moment = pos 0 }

module _ (config : Config) (files copies : List StaticFile) (one other : List SiteItem) (same_files : map copy_basis files ≡ map copy_basis copies) (same : map item_facts one ≡ map item_facts other) where
  same_own : own_variables (site_of config files one) ≡ own_variables (site_of config copies other)
  same_own = λ i. onto_pairs
      (pair (codes "posts") (same_newest one other same i)
      (pair (codes "pages") (same_names one other same (λ f. not (nat_lt f.group (length config.collections))) i)
      (pair (codes "html_pages") (same_names one other same (λ f. not (nat_lt f.group (length config.collections)) && (is_page_ext (output_ext config.markdown_ext (extension (file_name f.name.path))) || f.is_folder)) i)
      (pair (codes "documents") (same_names one other same (λ f. nat_lt f.group (length config.collections)) i) no_pairs))))
      (onto_pairs
      (pair (codes "static_files") (list (same_copies files copies same_files i)) (pair (codes "collections") (list (same_collections one other same 0 config.collections i)) no_pairs))
      (pair (codes "categories") (hash (same_labels one other same (λ f. f.categories) i)) (pair (codes "tags") (hash (same_labels one other same (λ f. f.tags) i)) no_pairs)))

  same_variables : variables (site_of config files one) ≡ variables (site_of config copies other)
  unfolding variables
  same_variables = λ i. set_all (same_own i) (set_all (settings config) (set_all (same_documents one other same 0 config.collections i) config.all))

of_parts : (site : Site) → variables site ≡ variables (site_of site.config site.statics site.items)
unfolding variables
of_parts site = refl

-- two sites with one basis have the same variables
pub rests_on : (basis : Basis) (one other : Site) → IsOn basis one → IsOn basis other → one.config ≡ config (hash one.config.all) → other.config ≡ config (hash other.config.all)
    → variables one ≡ variables other
rests_on basis one other is is_too set set_too =
    let same_config : one.config ≡ other.config = set ∙ ap (λ (ps : Pairs). config (hash ps)) (sym is.all ∙ is_too.all) ∙ sym set_too in
    of_parts one
    ∙ same_variables one.config one.statics other.statics one.items other.items (sym is.copies ∙ is_too.copies) (sym is.items ∙ is_too.items)
    ∙ ap (λ (c : Config). variables (site_of c other.statics other.items)) same_config
    ∙ sym (of_parts other)
