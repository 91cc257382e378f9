-- The variables by which an item is known.
use Rattle.std.proofs.Common.{◌≡◌, ℕ, Bool, true, false, ◌||◌, List, [], ◌∷◌, codes, length, map, nat_lt, Option, Some, None, Ok, Err, Less, Equal, Greater, Ordering, if◌then◌else◌, refl, sym, ap, subst, ◌∙◌}
use Rattle.std.specs.BTreeMap.{insert_entry}
use Rattle.std.specs.List.{AllByRecursion}
use Rattle.std.specs.Option.{unwrap_or}
use Rattle.std.specs.Ordering.{match_ordering}
use Rattle.std.specs.Prelude.{ℤ, ◌==◌}
use Rattle.std.proofs.Common.{inl, inr}
use Rattle.std.specs.Str.{bytes_eq}
use Rattle.site_base.specs.Chains.{◌>>=◌}
use Rattle.site_base.specs.Plain.{Plain, nil, bool, hash, site_item, text, Pairs, no_pairs, pair, get, set}
use Rattle.site_base.proofs.Entries.{same_text, text_same}
use Rattle.site_config.specs.declared.config.Config.{Config}
use Rattle.site_config.specs.declared.scope.Scope.{Scope}
use Rattle.front_yaml.specs.Front.{front}
use Rattle.site_files.specs.Names.{extension, file_name, stem}
use Rattle.site_files.specs.Places.{place_of}
use Rattle.site_items.specs.Addresses.{dest_of, found_url, template}
use Rattle.site_items.specs.Dates.{given_date}
use Rattle.site_items.specs.Defaults.{variable, variables}
use Rattle.site_items.specs.Extensions.{output_ext}
use Rattle.site_items.specs.Items as of
use Rattle.site_items.specs.Matter.{matter}
use Rattle.site_items.specs.Outcomes.{Outcome}
use Rattle.site_items.specs.declared.item.Item.{Item}
use Rattle.site_items.specs.declared.kind.Kind.{Kind}
use Rattle.site_items.specs.declared.kind.Kind.TheVariants as kind
use Rattle.site_items.specs.declared.timeless.Timeless.{Timeless}
use Rattle.site_items.specs.declared.timeless.Timeless.TheVariants.{Undated, Unpublished}
use Rattle.site_reader.specs.Found.{each, in_file}
use Rattle.site_reader.specs.Lawful.{HasVariables, IsNeighbour, IsPost, IsRooted, KnowsItself}
use Rattle.site_reader.specs.Neighbours.{neighbour, site_item_of, site_items, with_neighbours}
use Rattle.site_reader.specs.Placing.{File, as_item, placed}
use Rattle.site_reader.specs.Ranks.{Ranked, group_of, rank, rank_cmp, with_item}
use Rattle.site_reader.specs.Sites as sites
use Rattle.site_reader.specs.declared.rank.Rank.{Rank}
use Rattle.site_reader.specs.declared.site_item.SiteItem.{SiteItem}
use Rattle.site_reader.proofs.PostLaws.{HasPosts, Stands, matter_stands, own_post, place_fits, present_post, url_rooted}
use Rattle.site_reader.proofs.RankOrder.{rank_same}
use Rattle.site_reader.proofs.Weights.{each_keeps, each_mapped, file_found, found_before, found_value}

-- ---- what stands at a key

apart_from : (k l m : List ℕ) → bytes_eq l m ≡ false → bytes_eq k m ≡ true → bytes_eq k l ≡ false
apart_from k l m other same = by (bytes_eq k l) refl
  where
    by : (b : Bool) → bytes_eq k l ≡ b → b ≡ false
    by true is = absurd (cc (other, text_same l m (sym (same_text k l is) ∙ same_text k m same)))
    by false is = refl

module _ (k l : List ℕ) (v : Plain) where
  here : (a b : Bool) (w : Plain) (rest : Option Plain) → a ≡ b → (if b then Some v else rest) ≡ (if a then Some v else (if b then Some w else rest))
  here true true w rest is = refl
  here true false w rest is = absurd (cc (is))
  here false true w rest is = absurd (cc (is))
  here false false w rest is = refl

  beside : (a b : Bool) (w : Plain) (rest more : Option Plain) → (b ≡ true → a ≡ false) → more ≡ (if a then Some v else rest) → (if b then Some w else more) ≡ (if a then Some v else (if b then Some w else rest))
  beside true true w rest more apart is = absurd (cc (apart refl))
  beside true false w rest more apart is = is
  beside false true w rest more apart is = refl
  beside false false w rest more apart is = is

  get_set : (ps : Pairs) → get k (set l v ps) ≡ (if bytes_eq k l then Some v else get k ps)
  get_set no_pairs = refl
  get_set (pair m w ps) = by (bytes_eq l m) refl (get_set ps)
    where
      by : (b : Bool) → bytes_eq l m ≡ b → get k (set l v ps) ≡ (if bytes_eq k l then Some v else get k ps)
          → get k (if b then pair m v ps else pair m w (set l v ps)) ≡ (if bytes_eq k l then Some v else get k (pair m w ps))
      by true is rest = here (bytes_eq k l) (bytes_eq k m) w (get k ps) (ap (bytes_eq k) (same_text l m is))
      by false is rest = beside (bytes_eq k l) (bytes_eq k m) w (get k ps) (get k (set l v ps)) (apart_from k l m is) rest

  pub other_set : (ps : Pairs) → bytes_eq k l ≡ false → get k (set l v ps) ≡ get k ps
  other_set ps apart = get_set ps ∙ ap (λ b. if b then Some v else get k ps) apart

pub same_set : (k : List ℕ) (v : Plain) (ps : Pairs) → get k (set k v ps) ≡ Some v
same_set k v ps = get_set k k v ps ∙ ap (λ b. if b then Some v else get k ps) (text_same k k refl)

-- ---- an item's own path, URL and extension

pub record Known (path address : List ℕ) (vars : Pairs) : Type 0 where
  pub its_path : get (codes "path") vars ≡ Some (text path)
  pub its_relative_path : get (codes "relative_path") vars ≡ Some (text path)
  pub its_url : get (codes "url") vars ≡ Some (text address)
  pub its_ext : get (codes "ext") vars ≡ Some (text (extension (file_name path)))

-- a key that is none of these
record IsOther (key : List ℕ) : Type 0 where
  no_path : bytes_eq (codes "path") key ≡ false
  no_relative_path : bytes_eq (codes "relative_path") key ≡ false
  no_url : bytes_eq (codes "url") key ≡ false
  no_ext : bytes_eq (codes "ext") key ≡ false

other_key : (key : List ℕ) → bytes_eq (codes "path") key ≡ false → bytes_eq (codes "relative_path") key ≡ false → bytes_eq (codes "url") key ≡ false → bytes_eq (codes "ext") key ≡ false → IsOther key
other_key key path relative_path url ext = record { no_path = path; no_relative_path = relative_path; no_url = url; no_ext = ext }

module _ (path address : List ℕ) where
  keeps : (key : List ℕ) (v : Plain) (vars : Pairs) → IsOther key → Known path address vars → Known path address (set key v vars)
  keeps key v vars other known = record {
    its_path = other_set (codes "path") key v vars other.no_path ∙ known.its_path;
    its_relative_path = other_set (codes "relative_path") key v vars other.no_relative_path ∙ known.its_relative_path;
    its_url = other_set (codes "url") key v vars other.no_url ∙ known.its_url;
    its_ext = other_set (codes "ext") key v vars other.no_ext ∙ known.its_ext;
  }

  keeps_if : (b : Bool) (key : List ℕ) (v : Plain) (vars : Pairs) → IsOther key → Known path address vars → Known path address (of.set_if b key v vars)
  keeps_if true key v vars other known = keeps key v vars other known
  keeps_if false key v vars other known = known

  known_placed : (vars : Pairs) → Known path address (of.placed path address vars)
  known_placed vars =
      let first = set (codes "path") (text path) vars in
      let second = set (codes "relative_path") (text path) first in
      let third = set (codes "url") (text address) second in
      let ext = text (extension (file_name path)) in
      record {
        its_path = other_set (codes "path") (codes "ext") ext third refl ∙ other_set (codes "path") (codes "url") (text address) second refl ∙ other_set (codes "path") (codes "relative_path") (text path) first refl ∙ same_set (codes "path") (text path) vars;
        its_relative_path = other_set (codes "relative_path") (codes "ext") ext third refl ∙ other_set (codes "relative_path") (codes "url") (text address) second refl ∙ same_set (codes "relative_path") (text path) first;
        its_url = other_set (codes "url") (codes "ext") ext third refl ∙ same_set (codes "url") (text address) second;
        its_ext = same_set (codes "ext") ext third;
      }

  known_document : (post draft : Bool) (id tags categories date collection : Plain) (vars : Pairs) → Known path address vars
      → Known path address (set (codes "id") id (set (codes "tags") tags (of.set_if post (codes "categories") categories (set (codes "date") date (of.set_if draft (codes "draft") (bool true) (set (codes "collection") collection vars))))))
  known_document post draft id tags categories date collection vars known =
      keeps (codes "id") id _ (other_key (codes "id") refl refl refl refl)
      (keeps (codes "tags") tags _ (other_key (codes "tags") refl refl refl refl)
      (keeps_if post (codes "categories") categories _ (other_key (codes "categories") refl refl refl refl)
      (keeps (codes "date") date _ (other_key (codes "date") refl refl refl refl)
      (keeps_if draft (codes "draft") (bool true) _ (other_key (codes "draft") refl refl refl refl)
      (keeps (codes "collection") collection vars (other_key (codes "collection") refl refl refl refl) known)))))

  known_page : (dir name : Plain) (vars : Pairs) → Known path address vars → Known path address (set (codes "dir") dir (set (codes "name") name vars))
  known_page dir name vars known =
      keeps (codes "dir") dir _ (other_key (codes "dir") refl refl refl refl)
      (keeps (codes "name") name vars (other_key (codes "name") refl refl refl refl) known)

  known_kind : (config : Config) (k : Kind) (moment : Option ℤ) (vars : Pairs) → Known path address vars → Known path address (of.kind_variables config k path address moment vars)
  known_kind config kind.Page moment vars known = known_page _ _ vars known
  known_kind config kind.Post moment vars known = known_document true false _ _ _ _ _ vars known
  known_kind config kind.Draft moment vars known = known_document true true _ _ _ _ _ vars known
  known_kind config (kind.Document n) moment vars known = known_document false false _ _ nil _ _ vars known

  -- a page tells its own
  pub page_known : (given : Pairs) → Known path address (of.page_variables path address (of.placed path address given))
  page_known given = known_page _ _ (of.placed path address given) (known_placed given)

-- ---- an item that is found

-- its variables are those that are given, and over them those of its kind
record IsMade (config : Config) (group : ℕ) (path : List ℕ) (made : Item) : Type 0 where
  kind : Kind
  in_group : group_of config kind ≡ group
  given : Pairs
  moment : Option ℤ
  rooted : IsRooted made.url
  post : group ≡ 0 → IsPost kind 0 moment
  are : made.vars ≡ of.kind_variables config kind path made.url moment (of.placed path made.url (of.kind_named config.timezone kind (stem (file_name path)) given))

abbrev IsKnown : Config → ℕ → List ℕ → Item → Type 0
IsKnown config group path made = Known path made.url made.vars × IsMade config group path made

module _ (config : Config) (k : Kind) (path : List ℕ) (made : Item) where
  abbrev Makes : Outcome Item → Type 0
  Makes found = found ≡ Ok made

  abbrev Named : Pairs → Pairs
  Named given = of.kind_named config.timezone k (stem (file_name path)) given

  -- what it is where it is a post
  abbrev Post : Option ℤ → Type 0
  Post moment = group_of config k ≡ 0 → IsPost k 0 moment

  at_address : (moment : Option ℤ) (given : Pairs) (text_body ext address : List ℕ) → Post moment → IsRooted address → Makes (of.item_at config k path moment (Named given) text_body ext address) → IsKnown config (group_of config k) path made
  at_address moment given text_body ext address post rooted e =
      let dest = found_before (dest_of config k address ext) _ made e in
      let own = of.placed path address (Named given) in
      subst (IsKnown config (group_of config k) path) (found_value _ made dest.2) (known_kind path address config k moment own (known_placed path address (Named given)), record { kind = k; in_group = refl; given = given; moment = moment; rooted = rooted; post = post; are = refl })

  named : (moment : Option ℤ) (given : Pairs) (text_body : List ℕ) → Post moment → Makes (of.named_item config k path moment given text_body) → IsKnown config (group_of config k) path made
  named moment given text_body post e =
      let ext = output_ext config.markdown_ext (extension (file_name path)) in
      let t = found_before (template config ext (stem (file_name path)) k (variable (codes "permalink") (Named given))) _ made e in
      let address = found_before (found_url _) (of.item_at config k path moment (Named given) text_body ext) made t.2 in
      at_address moment given text_body ext address.0 post (url_rooted t.0 _ address.0 address.1) address.2

  -- ---- what it was before the present moment is known

  abbrev MakesSome : Outcome (Option Item) → Type 0
  MakesSome found = found ≡ Ok (Some made)

  nothing : ◌≡◌ {A = Outcome (Option Item)} (Ok None) (Ok (Some made)) → ⊥
  nothing e = absurd (cc (found_value None (Some made) e))

  some_made : (found : Outcome Item) → MakesSome (of.some_item found) → Makes found
  some_made found e =
      let item = found_before found (λ i. Ok (Some i)) (Some made) e in
      item.1 ∙ ap Ok (ap (λ (o : Option Item). unwrap_or o made) (found_value (Some item.0) (Some made) item.2))

  module _ (now : ℤ) (future : Bool) (posts : HasPosts config) (stands : Stands config path (Some k)) where
    abbrev Becomes : Timeless → Type 0
    Becomes t = MakesSome (of.at now future config k path t)

    abbrev own_date : Option ℤ → Option ℤ
    own_date given = of.document_date config.timezone k (stem (file_name path)) given

    not_later : (moment : Option ℤ) (found : Outcome Item) → MakesSome (of.unless_later now future moment found) → Makes found
    not_later moment found e = by (of.is_left_out now future moment) e
      where
        by : (b : Bool) → MakesSome (if b then Ok None else of.some_item found) → Makes found
        by true is = absurd (nothing is)
        by false is = some_made found is

    in_time : (moment : Option ℤ) (found : Outcome Item) → Becomes (of.of_moment moment found) → Makes found
    in_time moment (Ok item) e = not_later item.moment (Ok item) e
    in_time moment (Err f) e = not_later moment (Err f) e

    dated : (vars : Pairs) (text_body : List ℕ) (given : Option ℤ) → Becomes (of.timeless_of config k path vars text_body (own_date given)) → IsKnown config (group_of config k) path made
    dated vars text_body given e = by (of.has_present k (own_date given)) refl e
      where
        by : (b : Bool) → of.has_present k (own_date given) ≡ b → Becomes (if b then Undated vars text_body else of.of_moment (own_date given) (of.named_item config k path (own_date given) vars text_body)) → IsKnown config (group_of config k) path made
        by true present is = named (Some now) vars text_body (λ _. present_post config path posts k (own_date given) now present) (some_made _ is)
        by false own is = named (own_date given) vars text_body (own_post config path posts k given stands own) (in_time (own_date given) _ is)

    published : (vars : Pairs) (text_body : List ℕ) (told : Bool) (t : Timeless) → of.timeless_published config k path vars text_body told ≡ Ok t → Becomes t → IsKnown config (group_of config k) path made
    published vars text_body told t e becomes = by (told || config.unpublished) e
      where
        by : (b : Bool) → (if b then given_date config.timezone (variable (codes "date") vars) >>= of.timeless_dated config k path vars text_body else Ok Unpublished) ≡ Ok t → IsKnown config (group_of config k) path made
        by true is =
            let given = found_before (given_date config.timezone (variable (codes "date") vars)) (of.timeless_dated config k path vars text_body) t is in
            dated vars text_body given.0 (subst Becomes (sym (found_value _ t given.2)) becomes)
        by false is = absurd (nothing (subst Becomes (sym (found_value Unpublished t is)) becomes))

    item_known : (scopes : List Scope) (bytes : List ℕ) → MakesSome (of.item config scopes now future k path bytes) → IsKnown config (group_of config k) path made
    item_known scopes bytes e =
        let t = found_before (of.timeless config scopes k path bytes) (of.at now future config k path) (Some made) e in
        let m = found_before (matter bytes) (of.matter_timeless config scopes k path) t.0 t.1 in
        let vars = variables config scopes k path m.0.vars in
        let told = found_before (of.is_published (variable (codes "published") vars)) (of.timeless_published config k path vars m.0.body) t.0 m.2 in
        published vars m.0.body told.0 t.0 told.2 t.2

-- ---- the items in their order

abbrev AreKnown : Config → Ranked → Type 0
AreKnown config es = AllByRecursion (λ e. IsKnown config e.0.group e.0.path e.1) es

known_inserted : (config : Config) (r : Rank) (made : Item) (es : Ranked) → IsKnown config r.group r.path made → AreKnown config es → AreKnown config (insert_entry rank_cmp es r made)
known_inserted config r made [] known all = (known, tt)
known_inserted config r made (e ∷ es) known all = by (rank_cmp r e.0) refl (known_inserted config r made es known all.1)
  where
    by : (o : Ordering) → rank_cmp r e.0 ≡ o → AreKnown config (insert_entry rank_cmp es r made) → AreKnown config (match_ordering o ((r, made) ∷ e ∷ es) ((e.0, made) ∷ es) (e ∷ insert_entry rank_cmp es r made))
    by Less is rest = (known, all)
    by Equal is rest = (subst (λ (q : Rank). IsKnown config q.group q.path made) (rank_same r e.0 is) known, all.1)
    by Greater is rest = (all.0, rest)

module _ (config : Config) (posts : HasPosts config) (scopes : List Scope) (now : ℤ) (future : Bool) where
  with_known : (k : Kind) (path : List ℕ) (made : Option Item) (es : Ranked) → ((item : Item) → made ≡ Some item → IsKnown config (group_of config k) path item) → AreKnown config es → AreKnown config (with_item config k path made es)
  with_known k path None es known all = all
  with_known k path (Some item) es known all =
      known_inserted config (rank config k path item) item es
      (known item refl) all

  add_known : (f : File) (k : Option Kind) (made more : Ranked) → Stands config f.0 k → sites.add_kind config scopes now future f k made ≡ Ok more → AreKnown config made → AreKnown config more
  add_known f None made more stands e all = subst (AreKnown config) (found_value made more e) all
  add_known f (Some k) made more stands e all =
      let read = found_before (in_file f.0 (of.item config scopes now future k f.0 f.1)) _ more e in
      let is = file_found f.0 (of.item config scopes now future k f.0 f.1) read.0 read.1 in
      subst (AreKnown config) (found_value _ more read.2)
      (with_known k f.0 read.0 made (λ item some. item_known config k f.0 item now future posts stands scopes f.1 (is ∙ ap Ok some)) all)

neighbours_known : (documents : ℕ) (rank : Rank) (before behind : Option Rank) (address : List ℕ) (vars : Pairs) → Known rank.path address vars → Known rank.path address (with_neighbours documents rank before behind vars)
neighbours_known documents rank before behind address vars known = by (nat_lt rank.group documents)
  where
    by : (b : Bool) → Known rank.path address (if b then set (codes "previous") (neighbour rank before) (set (codes "next") (neighbour rank behind) vars) else vars)
    by true =
        keeps rank.path address (codes "previous") (neighbour rank before) _ (other_key (codes "previous") refl refl refl refl)
        (keeps rank.path address (codes "next") (neighbour rank behind) vars (other_key (codes "next") refl refl refl refl) known)
    by false = known

is_neighbour : (rank : Rank) (other : Option Rank) → IsNeighbour (neighbour rank other)
is_neighbour rank None = inl refl
is_neighbour rank (Some other) = by (other.group == rank.group)
  where
    by : (b : Bool) → IsNeighbour (if b then site_item other.path 0 else nil)
    by true = inr (other.path, refl)
    by false = inl refl

module _ (config : Config) where
  abbrev documents : ℕ
  documents = length config.collections

  -- what is said of each item
  abbrev pub Has : SiteItem → Type 0
  Has item = KnowsItself item × HasVariables config item

  knows_itself : (rank : Rank) (before behind : Option Rank) (made : Item) → IsKnown config rank.group rank.path made → Has (site_item_of documents rank before behind made)
  knows_itself rank before behind made is =
      let known = neighbours_known documents rank before behind made.url made.vars is.0 in
      let itself : KnowsItself (site_item_of documents rank before behind made) = record {
        path = ap (λ o. unwrap_or o nil) known.its_path;
        relative_path = ap (λ o. unwrap_or o nil) known.its_relative_path;
        url = ap (λ o. unwrap_or o nil) known.its_url;
        ext = ap (λ o. unwrap_or o nil) known.its_ext;
      } in
      let variables : HasVariables config (site_item_of documents rank before behind made) = record {
        kind = is.1.kind;
        in_group = is.1.in_group;
        address = made.url;
        own = λ _. refl;
        given = is.1.given;
        moment = is.1.moment;
        previous = neighbour rank before;
        next = neighbour rank behind;
        previous_is = is_neighbour rank before;
        next_is = is_neighbour rank behind;
        are = ap (λ vars. hash (with_neighbours documents rank before behind vars)) is.1.are;
        paginator = inl refl;
        rooted = λ _. is.1.rooted;
        post = is.1.post;
      } in
      (itself, variables)

  pub all_own : (before : Option Rank) (es : Ranked) → AllByRecursion (λ (item : SiteItem). item.name.part ≡ 0) (site_items documents before es)
  unfolding site_items
  all_own before [] = tt
  all_own before (e ∷ es) = (refl, all_own (Some e.0) es)

  all_know : (before : Option Rank) (es : Ranked) → AreKnown config es → AllByRecursion Has (site_items documents before es)
  unfolding site_items
  all_know before [] all = tt
  all_know before (e ∷ es) all = (knows_itself e.0 before _ e.1 all.0, all_know (Some e.0) es all.1)

  -- what is said of the items before pagination
  pub record AreOwn (made : List SiteItem) : Type 0 where
    pub parts : AllByRecursion (λ (item : SiteItem). item.name.part ≡ 0) made
    pub has : AllByRecursion Has made

  pub items_know : HasPosts config → (scopes : List Scope) (now : ℤ) (drafts future : Bool) (files : List File) (made : List SiteItem)
      → sites.items_by scopes config now future (map (placed config drafts) files) ≡ Ok made → AreOwn made
  items_know posts scopes now drafts future files made e =
      let ranked = found_before (each (sites.add_item config scopes now future) (map (placed config drafts) files) []) (sites.items_in_order config) made e in
      let known : AreKnown config ranked.0 =
      each_keeps (λ f. sites.add_item config scopes now future (placed config drafts f)) (AreKnown config) (λ f before more is all. add_known config posts scopes now future f (as_item (placed config drafts f)) before more (file_stands f) is all) files [] ranked.0 (sym (each_mapped (placed config drafts) (sites.add_item config scopes now future) files []) ∙ ranked.1) tt in
      subst AreOwn (found_value (site_items documents None ranked.0) made ranked.2) (record { parts = all_own None ranked.0; has = all_know None ranked.0 known })
    where
      file_stands : (f : File) → Stands config f.0 (as_item (placed config drafts f))
      file_stands f = matter_stands config f.0 (place_of config drafts f.0) (front f.1) (place_fits config f.0 posts drafts)
