-- What is said of the items of a site holds of them with their pages too.
use Rattle.std.proofs.Common.{◌≡◌, ◌≢◌, ℕ, zero, suc, ◌+◌, ◌-◌, ◌*◌, ◌<◌, ◌≤◌, nat_lt, nat_le, Bool, true, false, if◌then◌else◌, List, [], ◌∷◌, ◌++◌, codes, length, length-append, map, take, drop, slice_set, Option, Some, None, Ok, inl, inr, ◌⊎◌, arith, refl, sym, ap, subst, ◌∙◌}
use Rattle.std.specs.List.{AllByRecursion}
use Rattle.std.specs.Option.{unwrap_or}
use Rattle.std.specs.Prelude.{pos}
use Rattle.std.specs.Str.{bytes_eq}
use Rattle.std.proofs.lemmas.List.{length-set}
use Rattle.site_base.specs.Plain.{Pairs, Plain, hash, int, nil, set, text}
use Rattle.site_base.specs.View.{plain}
use Rattle.site_base.specs.declared.item_name.ItemName.{ItemName}
use Rattle.site_base.specs.declared.value.Value.{Value}
use Rattle.site_base.specs.declared.value.Value.TheVariants as value
use Rattle.site_config.specs.Config.{count_of}
use Rattle.site_config.specs.Forms.{setting}
use Rattle.site_config.specs.declared.config.Config.{Config}
use Rattle.site_files.specs.Names.{file_name, stem}
use Rattle.site_items.specs.Items.{addressed, folder_of, kind_named, kind_variables, placed}
use Rattle.site_items.specs.declared.kind.Kind.{Kind}
use Rattle.site_reader.specs.Lawful.{HasVariables, KnowsItself, page_of, part_group, part_variables}
use Rattle.site_reader.specs.Neighbours.{between}
use Rattle.site_reader.specs.Paginating as paged
use Rattle.site_reader.specs.Ranks.{group_of}
use Rattle.site_reader.specs.declared.paging.Paging.{Paging}
use Rattle.site_reader.specs.declared.site_item.SiteItem.{SiteItem}
use Rattle.site_reader.proofs.Differing.{Distinct}
use Rattle.site_reader.proofs.EachLaws.{mapped_one}
use Rattle.site_reader.proofs.PageLaws.{IsSpread, all_get, all_pushed, all_set, map_set, page_is, pages_few, pages_keep, paginated_is, posts_few, template_group}
use Rattle.site_reader.proofs.VariableLaws.{AreOwn, Has, other_set, same_set}

-- ---- names

distinct_pushed : {B : Type 0} (ns : List B) (n : B) → Distinct ns → AllByRecursion (λ m. m ≢ n) ns → Distinct (ns ++ n ∷ [])
distinct_pushed [] n apart new = (tt, tt)
distinct_pushed (m ∷ ns) n apart new = (all_pushed (λ k. m ≢ k) ns n apart.0 new.0, distinct_pushed ns n apart.1 new.1)

-- where paths differ, names do
paths_apart : (path : List ℕ) (name : ItemName) → name.path ≡ path → (items : List SiteItem) → AllByRecursion (λ p. path ≢ p) (map (λ (i : SiteItem). i.name.path) items) → AllByRecursion (λ m. name ≢ m) (map (λ (i : SiteItem). i.name) items)
paths_apart path name is [] apart = tt
paths_apart path name is (item ∷ items) apart = (λ same. apart.0 (sym is ∙ ap (λ (n : ItemName). n.path) same), paths_apart path name is items apart.1)

names_distinct : (items : List SiteItem) → Distinct (map (λ (i : SiteItem). i.name.path) items) → Distinct (map (λ (i : SiteItem). i.name) items)
names_distinct [] apart = tt
names_distinct (item ∷ items) apart = (paths_apart item.name.path item.name refl items apart.0, names_distinct items apart.1)

-- a page has a higher number than all before it
new_name : (name : ItemName) (items : List SiteItem) → AllByRecursion (λ (i : SiteItem). i.name.part < name.part) items → AllByRecursion (λ m. m ≢ name) (map (λ (i : SiteItem). i.name) items)
new_name name [] below = tt
new_name name (item ∷ items) below = (λ same. absurd (omega (arith, below.0, ap (λ (n : ItemName). n.part) same)), new_name name items below.1)

all_below : (number : ℕ) (items : List SiteItem) → AllByRecursion (λ (i : SiteItem). i.name.part < number) items → AllByRecursion (λ (i : SiteItem). i.name.part < suc number) items
all_below number [] below = tt
all_below number (item ∷ items) below = (omega (arith, below.0), all_below number items below.1)

none_above : (items : List SiteItem) → AllByRecursion (λ (i : SiteItem). i.name.part ≡ 0) items → AllByRecursion (λ (i : SiteItem). i.name.part < 2) items
none_above [] own = tt
none_above (item ∷ items) own = (omega (arith, own.0), none_above items own.1)

-- what has no part is no part 1
not_first : (items : List SiteItem) → AllByRecursion (λ (i : SiteItem). i.name.part ≡ 0) items → AllByRecursion (λ (i : SiteItem). i.name.part ≢ 1) items
not_first [] own = tt
not_first (item ∷ items) own = (λ one. absurd (omega (arith, own.0, one)), not_first items own.1)

-- ---- variables

part_above : (config : Config) (kind : Kind) (number : ℕ) → 1 ≤ number → part_group config kind number ≡ suc (group_of config kind)
part_above config kind zero least = absurd (omega (arith, least))
part_above config kind (suc part) least = refl

page_itself : (number : ℕ) → 1 ≤ number → page_of number ≡ number
page_itself zero least = absurd (omega (arith, least))
page_itself (suc part) least = refl

variables_above : (number : ℕ) (address : List ℕ) (vars : Pairs) → 1 ≤ number → part_variables number address vars ≡ addressed address vars
variables_above zero address vars least = absurd (omega (arith, least))
variables_above (suc part) address vars least = refl

with_address_is : (v : Value) (ps : Pairs) (address : List ℕ) → plain v ≡ hash ps → plain (paged.with_address address v) ≡ hash (addressed address ps)
with_address_is (value.Hash qs) ps address are = let same : qs ≡ ps = cc (are) in ap (λ (vars : Pairs). hash (addressed address vars)) same
with_address_is v ps address are = absurd (cc (are))

-- what the variables of a page with another address still tell, and what they tell of that
module _ (v : Value) (ps : Pairs) (address : List ℕ) (are : plain v ≡ hash ps) where
  address_keeps : (key : List ℕ) → bytes_eq key (codes "dir") ≡ false → bytes_eq key (codes "url") ≡ false → setting key (plain (paged.with_address address v)) ≡ setting key (plain v)
  address_keeps key no_dir no_url =
      ap (setting key) (with_address_is v ps address are)
      ∙ ap (λ o. unwrap_or o nil) (other_set key (codes "dir") (text (folder_of address)) (set (codes "url") (text address) ps) no_dir ∙ other_set key (codes "url") (text address) ps no_url)
      ∙ sym (ap (setting key) are)

  address_is : setting (codes "url") (plain (paged.with_address address v)) ≡ text address
  address_is =
      ap (setting (codes "url")) (with_address_is v ps address are)
      ∙ ap (λ o. unwrap_or o nil) (other_set (codes "url") (codes "dir") (text (folder_of address)) (set (codes "url") (text address) ps) refl ∙ same_set (codes "url") (text address) ps)

behind_documents : (group documents : ℕ) → group ≡ documents → nat_lt group documents ≡ nat_lt (suc documents) documents
behind_documents group documents is = grind (arith, is)

module _ (config : Config) (paging : Paging) where
  -- what is known of the template
  pub record IsTemplate : Type 0 where
    pub part : paging.template.name.part ≡ 0
    pub group : paging.template.group ≡ length config.collections
    pub behind : paging.group ≡ suc (length config.collections)
    pub has : Has config paging.template

  module _ (template : IsTemplate) where
    first_has : (posts : List ItemName) → Has config (paged.first_page paging posts)
    first_has posts =
        let known = template.has.0 in
        let had = template.has.1 in
        let knows : KnowsItself (paged.first_page paging posts) = record {
          path = known.path;
          relative_path = known.relative_path;
          url = known.url;
          ext = known.ext;
        } in
        let variables : HasVariables config (paged.first_page paging posts) = record {
          kind = had.kind;
          in_group = had.in_group;
          address = had.address;
          own = had.own;
          given = had.given;
          moment = had.moment;
          previous = had.previous;
          next = had.next;
          previous_is = had.previous_is;
          next_is = had.next_is;
          are = had.are;
          rooted = had.rooted;
          post = had.post;
          paginator = inr (paging, take paging.per_page posts, ap (λ part. hash (paged.paginator paging (page_of part) (take paging.per_page posts))) (sym template.part));
        } in
        (knows, variables)

    page_has : (number : ℕ) (posts : List ItemName) (url : List ℕ) (dest : Option (List ℕ)) → 1 ≤ number → Has config (paged.generated paging number posts url dest)
    page_has number posts url dest least =
        let known = template.has.0 in
        let had = template.has.1 in
        let path = paging.template.name.path in
        let vars = kind_variables config had.kind path had.address had.moment (placed path had.address (kind_named config.timezone had.kind (stem (file_name path)) had.given)) in
        let were = between (nat_lt paging.group (length config.collections)) had.previous had.next vars in
        let was : plain paging.template.vars ≡ hash were =
        had.are
        ∙ ap (λ part. hash (part_variables part paging.template.url (between (nat_lt paging.template.group (length config.collections)) had.previous had.next vars))) template.part
        ∙ ap (λ b. hash (between b had.previous had.next vars)) (behind_documents paging.template.group (length config.collections) template.group ∙ ap (λ g. nat_lt g (length config.collections)) (sym template.behind)) in
        let knows : KnowsItself (paged.generated paging number posts url dest) = record {
          path = address_keeps paging.template.vars were url was (codes "path") refl refl ∙ known.path;
          relative_path = address_keeps paging.template.vars were url was (codes "relative_path") refl refl ∙ known.relative_path;
          url = address_is paging.template.vars were url was;
          ext = address_keeps paging.template.vars were url was (codes "ext") refl refl ∙ known.ext;
        } in
        let in_group : group_of config had.kind ≡ length config.collections = ap (part_group config had.kind) (sym template.part) ∙ had.in_group ∙ template.group in
        let variables : HasVariables config (paged.generated paging number posts url dest) = record {
          kind = had.kind;
          in_group = part_above config had.kind number least ∙ ap suc in_group ∙ sym template.behind;
          address = had.address;
          own = λ none. absurd (omega (arith, none, least));
          given = had.given;
          moment = had.moment;
          previous = had.previous;
          next = had.next;
          previous_is = had.previous_is;
          next_is = had.next_is;
          are = with_address_is paging.template.vars were url was ∙ ap hash (sym (variables_above number url were least));
          rooted = λ none. absurd (omega (arith, none, least));
          post = λ first. absurd (omega (arith, first, template.behind));
          paginator = inr (paging, posts, ap (λ page. hash (paged.paginator paging page posts)) (sym (page_itself number least)));
        } in
        (knows, variables)

-- ---- the items with the pages before this number

record Hold (config : Config) (few number : ℕ) (items : List SiteItem) : Type 0 where
  least : 2 ≤ number
  count : length items + 2 ≡ few + number
  below : AllByRecursion (λ (i : SiteItem). i.name.part < number) items
  other : AllByRecursion (λ (i : SiteItem). i.name.part ≢ 1) items
  apart : Distinct (map (λ (i : SiteItem). i.name) items)
  has : AllByRecursion (Has config) items

page_holds : (config : Config) (paging : Paging) → IsTemplate config paging → (few number : ℕ) (posts : List ItemName) (items : List SiteItem) (made : SiteItem)
    → paged.page paging number posts ≡ Ok made → Hold config few number items → Hold config few (suc number) (items ++ made ∷ [])
page_holds config paging template few number posts items made e hold =
    let is = page_is paging number posts made e in
    subst (λ made. Hold config few (suc number) (items ++ made ∷ [])) is.2 (new (paged.generated paging number posts is.0 is.1) refl (page_has config paging template number posts is.0 is.1 (omega (arith, hold.least))))
  where
    new : (page : SiteItem) → page.name.part ≡ number → Has config page → Hold config few (suc number) (items ++ page ∷ [])
    new page part has = record {
      least = omega (arith, hold.least);
      count = omega (arith, hold.count, length-append items (page ∷ []));
      below = all_pushed (λ (i : SiteItem). i.name.part < suc number) items page (all_below number items hold.below) (omega (arith, part));
      other = all_pushed (λ (i : SiteItem). i.name.part ≢ 1) items page hold.other (λ one. absurd (omega (arith, one, part, hold.least)));
      apart = subst Distinct (sym (mapped_one (λ (i : SiteItem). i.name) items page))
          (distinct_pushed (map (λ (i : SiteItem). i.name) items) page.name hold.apart
          (new_name page.name items (subst (λ n. AllByRecursion (λ (i : SiteItem). i.name.part < n) items) (sym part) hold.below)));
      has = all_pushed (Has config) items page hold.has has;
    }

-- ---- all items

count_least : (v : Plain) (n : ℕ) → count_of v ≡ Some n → 1 ≤ n
count_least (int (pos m)) n e = by (nat_le 1 m) refl e
  where
    by : (b : Bool) → nat_le 1 m ≡ b → (if b then Some m else None) ≡ Some n → 1 ≤ n
    by true least some = let same : m ≡ n = cc (some) in grind (arith, least, same)
    by false least some = absurd (cc (some))
count_least v n e = absurd (cc (e))

-- what is said of the items with their pages, of which there are no more than items before
pub record ArePaged (config : Config) (read made : List SiteItem) : Type 0 where
  pub few : length made ≤ 2 * length read
  -- none is part 1, which pages of pagination never are
  pub other : AllByRecursion (λ (i : SiteItem). i.name.part ≢ 1) made
  pub apart : Distinct (map (λ (i : SiteItem). i.name) made)
  pub has : AllByRecursion (Has config) made

module _ (config : Config) (read made : List SiteItem) where
  counted : (n : ℕ) → config.paginate ≡ Some n → paged.HasSize config → 1 ≤ n
  counted n is size = count_least (setting (codes "paginate") (hash config.all)) n (sym size ∙ is)

  spread : paged.HasSize config → Distinct (map (λ (i : SiteItem). i.name.path) read) → AreOwn config read → IsSpread config read made → ArePaged config read made
  spread size apart own is =
      let paging = paged.paging_of config is.per_page is.template (length (is.post ∷ is.posts)) in
      let template : IsTemplate config paging = record {
        part = all_get (λ (i : SiteItem). i.name.part ≡ 0) read is.place is.template is.there own.parts;
        group = template_group config read is.place is.template is.there is.found;
        behind = refl;
        has = all_get (Has config) read is.place is.template is.there own.has;
      } in
      let first = paged.first_page paging (is.post ∷ is.posts) in
      let paths : map (λ (i : SiteItem). i.name.path) (slice_set read is.place first) ≡ map (λ (i : SiteItem). i.name.path) read = map_set (λ (i : SiteItem). i.name.path) read is.place is.template first is.there refl in
      let start : Hold config (length read) 2 (slice_set read is.place first) = record {
        least = omega arith;
        count = omega (arith, length-set read is.place first);
        below = none_above (slice_set read is.place first) (all_set (λ (i : SiteItem). i.name.part ≡ 0) read is.place first own.parts template.part);
        other = not_first (slice_set read is.place first) (all_set (λ (i : SiteItem). i.name.part ≡ 0) read is.place first own.parts template.part);
        apart = names_distinct (slice_set read is.place first) (subst Distinct (sym paths) apart);
        has = all_set (Has config) read is.place first own.has (first_has config paging template (is.post ∷ is.posts));
      } in
      let end : Hold config (length read) (paging.total_pages - 1 + 2) made =
      pages_keep paging (Hold config (length read)) (page_holds config paging template (length read)) (paging.total_pages - 1) 2 (drop is.per_page (is.post ∷ is.posts)) (slice_set read is.place first) made is.spread start in
      record {
        few = omega (arith, end.count, pages_few (length (is.post ∷ is.posts)) is.per_page (counted is.per_page is.counted size), posts_few read, ap length is.are);
        other = end.other;
        apart = end.apart;
        has = end.has;
      }

  pub paged_items : paged.HasSize config → Distinct (map (λ (i : SiteItem). i.name.path) read) → AreOwn config read → paged.paginated config read ≡ Ok made → ArePaged config read made
  paged_items size apart own e = by (paginated_is config read made e)
    where
      by : (read ≡ made) ⊎ IsSpread config read made → ArePaged config read made
      by (inl is) = subst (ArePaged config read) is (record { few = omega arith; other = not_first read own.parts; apart = names_distinct read apart; has = own.has })
      by (inr is) = spread size apart own is
