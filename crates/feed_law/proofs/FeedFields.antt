-- What the outputs of the feed's template come to, each over a view that finds what a feed rests on.
use Rattle.std.proofs.Common.{◌≡◌, ◌∙◌, refl, ap, sym, subst, ℕ, ◌==◌, nat_le, pos, Bool, true, false, List, [], ◌∷◌, ◌++◌, arith, length, map, take, codes, if◌then◌else◌}
use Rattle.site_base.specs.Plain.{Plain, nil, bool, int, text, list, hash, site_item, range, Items, no_items, item, item_list, no_pairs, pair, count, count_pairs}
use Rattle.site_base.specs.Values.{value_text}
use Rattle.site_base.specs.declared.faults.SiteFault.{SiteFault}
use Rattle.site_base.specs.declared.item_name.ItemName.{ItemName}
use Rattle.read_record.specs.Queries.{Query, Give, bind, View, Known, Gave, Failed, interpret}
use Rattle.read_record.specs.declared.key.Key.TheVariants.{SiteVar}
use Rattle.filter_base.specs.Answers.{made, limited}
use Rattle.filter_base.specs.Dates.{offset_in}
use Rattle.filter_base.specs.Limits.{most_text, most_nesting, nests, unless, nesting_excess, fits}
use Rattle.filter_base.specs.Lists.{is_blank}
use Rattle.jekyll_filters.specs.Table as jekyll
use Rattle.liquid_filters.specs.Table.{rows}
use Rattle.liquid_grammar.specs.Expressions.{filter_of}
use Rattle.liquid_grammar.specs.Operands.{literal}
use Rattle.liquid_grammar.specs.declared.expression.Expr.{Expr}
use Rattle.liquid_grammar.specs.declared.item.Leaf.TheVariants as leaves
use Rattle.liquid_grammar.specs.declared.literal.Literal.TheVariants as literals
use Rattle.liquid_values.specs.Names.{Excerpting, given, settled}
use Rattle.liquid_values.specs.Operands.{operand}
use Rattle.liquid_values.specs.Places.{Place, fault_at, placed, untested}
use Rattle.site_base.specs.declared.faults.FaultKind.TheVariants.{Nesting}
use Rattle.liquid_tags.specs.States.{written}
use Rattle.liquid_tags.specs.Expressions.{expression}
use Rattle.liquid_values.specs.StrictOptions.{defined, present}
use Rattle.liquid_tags.specs.Expressions.{filtered}
use Rattle.liquid_eval.specs.Nodes.{leaf_node}
use Rattle.liquid_eval.specs.Reached.{Enter, onward}
use Rattle.feed_pages.specs.Feed.{Post, escaped, title_text, date_text, last_update}
use Rattle.feed_law.specs.FeedNodes as nodes
use Rattle.feed_law.specs.FeedViews.{Finds, FindsAll, base_of, post_value}
use Rattle.feed_law.proofs.EscapeLaws.{escaped_longer, lt_more, lt_wider}
use Rattle.feed_law.proofs.MetLaws.{then_met, interpret_bind, guarded, then_guarded, too_long}
use Rattle.feed_law.proofs.FeedOutputs.{state, long, at, fault, reached_with, prints, text_fits, xml_escaped, after_text, date_filtered, first_moment, title_found, url_found, date_found, content_found}

-- a text that is too long by itself is so behind another
too_long_behind : (out t : List ℕ) → long t ≡ true → too_long out t ≡ true
too_long_behind out t h = lt_more most_text (length out) (length t) h

too_long_escaped : (out t : List ℕ) → long t ≡ true → too_long out (escaped t) ≡ true
too_long_escaped out t h = too_long_behind out (escaped t) (lt_wider most_text (length t) (length (escaped t)) (escaped_longer t) h)

-- ---- Addresses

module _ (excerpts : Excerpting) (view : View) (p : Place) (url baseurl : Plain) (url-at : view (SiteVar (codes "url")) ≡ Known url) (baseurl-at : view (SiteVar (codes "baseurl")) ≡ Known baseurl) where
  abbrev Addressed : List ℕ → List ℕ → Type 0
  Addressed path t =
      interpret view (filtered excerpts p no_pairs (filter_of (codes "absolute_url") [] ∷ filter_of (codes "xml_escape") [] ∷ []) (text path))
      ≡ guarded (long t) (fault p) (guarded (long (escaped t)) (fault p) (Gave (text (escaped t))))

  rooted_filtered : (rest : List ℕ) → Addressed (47 ∷ rest) (base_of url baseurl ++ 47 ∷ rest)
  unfolding jekyll.rows
  rooted_filtered rest =
      let t : List ℕ = base_of url baseurl ++ 47 ∷ rest in
      rw (url-at, baseurl-at)
      (after_text excerpts view p (placed p (limited (Give (text t)))) t (λ w. filtered excerpts p no_pairs (filter_of (codes "xml_escape") [] ∷ []) w)
      (guarded (long (escaped t)) (fault p) (Gave (text (escaped t)))) (text_fits view p t) (xml_escaped excerpts view p (text t)))

  pub address_filtered : (path : List ℕ) → (rest : List ℕ) × (path ≡ 47 ∷ rest) → Addressed path (base_of url baseurl ++ path)
  address_filtered path r = subst (λ (x : List ℕ). Addressed x (base_of url baseurl ++ x)) (sym r.1) (rooted_filtered r.0)

-- ---- The site's title

abbrev pub or_empty : Plain → Plain
or_empty v = if is_blank v then text [] else v

abbrev pub text_long : Plain → Bool
text_long (text t) = long t
text_long _ = false

title_is : (v : Plain) → value_text (or_empty v) ≡ title_text v
title_is nil = refl
title_is (bool true) = refl
title_is (bool false) = refl
title_is (int n) = refl
title_is (text []) = refl
title_is (text (c ∷ cs)) = let e : (length (c ∷ cs) == 0) ≡ false = grind arith in ap (λ (b : Bool). value_text (if b then text [] else text (c ∷ cs))) e
title_is (list no_items) = refl
title_is (list (item v is)) = let e : (count (item v is) == 0) ≡ false = grind arith in ap (λ (b : Bool). value_text (if b then text [] else list (item v is))) e
title_is (hash no_pairs) = refl
title_is (hash (pair k v ps)) = let e : (count_pairs (pair k v ps) == 0) ≡ false = grind arith in ap (λ (b : Bool). value_text (if b then text [] else hash (pair k v ps))) e
title_is (site_item path part) = refl
title_is (range a b) = refl

title_too_long : (v : Plain) → text_long v ≡ true → long (escaped (title_text v)) ≡ true
title_too_long (text t) h = lt_wider most_text (length t) (length (escaped t)) (escaped_longer t) h
title_too_long _ h = cc

module _ (view : View) (p : Place) where
  present_or_nil : (v : Plain) → interpret view (bind (bind (defined (untested p) (present v)) given) (settled (untested p))) ≡ Gave v
  present_or_nil nil = refl
  present_or_nil _ = refl

  nested : (v : Plain) (b : Bool) → b ≡ true → interpret view (placed p (made (unless v (nesting_excess b)))) ≡ Gave v
  nested v true h = refl
  nested v false h = cc

  pub fitted : (v : Plain) → nat_le (nests v) most_nesting ≡ true → interpret view (placed p (made (fits (or_empty v)))) ≡ guarded (text_long v) (fault p) (Gave (or_empty v))
  fitted nil h = refl
  fitted (bool true) h = refl
  fitted (bool false) h = refl
  fitted (int n) h = refl
  fitted (text []) h = refl
  fitted (text (c ∷ cs)) h =
      let e : (length (c ∷ cs) == 0) ≡ false = grind arith in
      subst (λ (b : Bool). interpret view (placed p (made (fits (if b then text [] else text (c ∷ cs))))) ≡ guarded (long (c ∷ cs)) (fault p) (Gave (if b then text [] else text (c ∷ cs)))) (sym e) (text_fits view p (c ∷ cs))
  fitted (list no_items) h = refl
  fitted (list (item v is)) h =
      let e : (count (item v is) == 0) ≡ false = grind arith in
      subst (λ (b : Bool). interpret view (placed p (made (fits (if b then text [] else list (item v is))))) ≡ Gave (if b then text [] else list (item v is))) (sym e) (nested (list (item v is)) (nat_le (nests (list (item v is))) most_nesting) h)
  fitted (hash no_pairs) h = refl
  fitted (hash (pair k v ps)) h =
      let e : (count_pairs (pair k v ps) == 0) ≡ false = grind arith in
      subst (λ (b : Bool). interpret view (placed p (made (fits (if b then text [] else hash (pair k v ps))))) ≡ Gave (if b then text [] else hash (pair k v ps))) (sym e) (nested (hash (pair k v ps)) (nat_le (nests (hash (pair k v ps))) most_nesting) h)
  fitted (site_item path part) h = refl
  fitted (range a b) h = refl

module _ (view : View) (p : Place) where
  too_deep : (v : Plain) (b : Bool) → b ≡ false → interpret view (placed p (made (unless v (nesting_excess b)))) ≡ Failed (fault_at p Nesting)
  too_deep v true h = cc
  too_deep v false h = refl

  pub deep_fitted : (v : Plain) → nat_le (nests v) most_nesting ≡ false → interpret view (placed p (made (fits (or_empty v)))) ≡ Failed (fault_at p Nesting)
  deep_fitted (list no_items) h = cc
  deep_fitted (list (item v is)) h =
      let e : (count (item v is) == 0) ≡ false = grind arith in
      subst (λ (b : Bool). interpret view (placed p (made (fits (if b then text [] else list (item v is))))) ≡ Failed (fault_at p Nesting)) (sym e) (too_deep (list (item v is)) (nat_le (nests (list (item v is))) most_nesting) h)
  deep_fitted (hash no_pairs) h = cc
  deep_fitted (hash (pair k v ps)) h =
      let e : (count_pairs (pair k v ps) == 0) ≡ false = grind arith in
      subst (λ (b : Bool). interpret view (placed p (made (fits (if b then text [] else hash (pair k v ps))))) ≡ Failed (fault_at p Nesting)) (sym e) (too_deep (hash (pair k v ps)) (nat_le (nests (hash (pair k v ps))) most_nesting) h)
  deep_fitted _ h = cc

-- the date of the newest post, where there is one
abbrev pub first_date : List Post → Plain
first_date [] = nil
first_date (p ∷ ps) = text p.date

-- ---- The outputs of the head

module _ (excerpts : Excerpting) (enter : Enter) (view : View) (file : List ℕ) (page : ItemName) (line : ℕ) where
  abbrev pub p : Place
  p = at file page [] nil false line

  abbrev title_filters : Plain → Query SiteFault Plain
  title_filters x = filtered excerpts p no_pairs (filter_of (codes "default") (literal (literals.Text []) ∷ []) ∷ filter_of (codes "xml_escape") [] ∷ []) x

  site_title_found : (v : Plain) → view (SiteVar (codes "title")) ≡ Known v → interpret view (operand excerpts (untested p) no_pairs (nodes.of_site (codes "title"))) ≡ Gave v
  site_title_found v h = rw h (present_or_nil view p v)

  site_title_filtered : (v : Plain) → nat_le (nests v) most_nesting ≡ true →
      interpret view (title_filters v) ≡ guarded (text_long v) (fault p) (guarded (long (escaped (value_text (or_empty v)))) (fault p) (Gave (text (escaped (value_text (or_empty v))))))
  unfolding rows jekyll.rows
  site_title_filtered v flat =
      interpret_bind view (placed p (made (fits (or_empty v)))) (λ x. filtered excerpts p no_pairs (filter_of (codes "xml_escape") [] ∷ []) x)
      ∙ ap (λ m. then_met m (λ x. interpret view (filtered excerpts p no_pairs (filter_of (codes "xml_escape") [] ∷ []) x))) (fitted view p v flat)
      ∙ then_guarded (text_long v) (fault p) (Gave (or_empty v)) (λ x. interpret view (filtered excerpts p no_pairs (filter_of (codes "xml_escape") [] ∷ []) x))
      ∙ ap (λ x. guarded (text_long v) (fault p) x) (xml_escaped excerpts view p (or_empty v))

  valued_fails : (v : Plain) → view (SiteVar (codes "title")) ≡ Known v → nat_le (nests v) most_nesting ≡ false → interpret view (expression excerpts p no_pairs nodes.title) ≡ Failed (fault_at p Nesting)
  unfolding rows jekyll.rows
  valued_fails v h deep =
      interpret_bind view (operand excerpts (untested p) no_pairs (nodes.of_site (codes "title"))) title_filters
      ∙ ap (λ m. then_met m (λ x. interpret view (title_filters x))) (site_title_found v h)
      ∙ interpret_bind view (placed p (made (fits (or_empty v)))) (λ x. filtered excerpts p no_pairs (filter_of (codes "xml_escape") [] ∷ []) x)
      ∙ ap (λ m. then_met m (λ x. interpret view (filtered excerpts p no_pairs (filter_of (codes "xml_escape") [] ∷ []) x))) (deep_fitted view p v deep)

  pub title_prints : (v : Plain) → view (SiteVar (codes "title")) ≡ Known v → nat_le (nests v) most_nesting ≡ true → (out : List ℕ) →
      interpret view (leaf_node excerpts enter p (leaves.Output nodes.title) (state out)) ≡ guarded (too_long out (escaped (title_text v))) (fault p) (reached_with (out ++ escaped (title_text v)))
  title_prints v h flat out =
      prints excerpts enter view p nodes.title (escaped (title_text v)) out (text_long v) (long (escaped (title_text v)))
      (interpret_bind view (operand excerpts (untested p) no_pairs (nodes.of_site (codes "title"))) title_filters
      ∙ ap (λ m. then_met m (λ x. interpret view (title_filters x))) (site_title_found v h)
      ∙ site_title_filtered v flat
      ∙ ap (λ (t : List ℕ). guarded (text_long v) (fault p) (guarded (long (escaped t)) (fault p) (Gave (text (escaped t))))) (title_is v))
      (λ e. too_long_behind out (escaped (title_text v)) (title_too_long v e))
      (too_long_behind out (escaped (title_text v)))

  pub title_fails : (v : Plain) → view (SiteVar (codes "title")) ≡ Known v → nat_le (nests v) most_nesting ≡ false → (out : List ℕ) →
      interpret view (leaf_node excerpts enter p (leaves.Output nodes.title) (state out)) ≡ Failed (fault_at p Nesting)
  title_fails v h deep out =
      interpret_bind view (bind (expression excerpts p no_pairs nodes.title) (λ x. written p (value_text x) (state out))) onward
      ∙ ap (λ m. then_met m (λ s. interpret view (onward s))) (interpret_bind view (expression excerpts p no_pairs nodes.title) (λ x. written p (value_text x) (state out))
      ∙ ap (λ m. then_met m (λ x. interpret view (written p (value_text x) (state out)))) (valued_fails v h deep))

  pub own_address_prints : (url baseurl : Plain) → view (SiteVar (codes "url")) ≡ Known url → view (SiteVar (codes "baseurl")) ≡ Known baseurl → (out : List ℕ) →
      interpret view (leaf_node excerpts enter p (leaves.Output nodes.own_address) (state out))
      ≡ guarded (too_long out (escaped (base_of url baseurl ++ codes "/feed.xml"))) (fault p) (reached_with (out ++ escaped (base_of url baseurl ++ codes "/feed.xml")))
  own_address_prints url baseurl h k out =
      let t : List ℕ = base_of url baseurl ++ codes "/feed.xml" in
      prints excerpts enter view p nodes.own_address (escaped t) out (long t) (long (escaped t)) (address_filtered excerpts view p url baseurl h k (codes "/feed.xml") (codes "feed.xml", refl))
      (too_long_escaped out t) (too_long_behind out (escaped t))

  newest_found : (all : Items) (posts : List Post) → take 10 (item_list all) ≡ map post_value posts → FindsAll view posts → view (SiteVar (codes "posts")) ≡ Known (list all) →
      interpret view (operand excerpts (untested p) no_pairs nodes.last_update.operand) ≡ Gave (first_date posts)
  newest_found no_items [] e finds h = rw h
  newest_found no_items (post ∷ posts) e finds h = cc
  newest_found (item v is) [] e finds h = cc
  newest_found (item v is) (post ∷ posts) e finds h = let same : v ≡ post_value post = cc in let date = finds.0.date in rw (h, same, date)

  module _ (zone : Plain) (zoned-at : view (SiteVar (codes "timezone")) ≡ Known zone) where
    newest_filtered : (posts : List Post) → FindsAll view posts →
        interpret view (filtered excerpts p no_pairs (filter_of (codes "default") (literal (literals.Int (pos 0)) ∷ []) ∷ filter_of (codes "date_to_xmlschema") [] ∷ []) (first_date posts))
        ≡ guarded (long (last_update (offset_in zone) posts)) (fault p) (Gave (text (last_update (offset_in zone) posts)))
    unfolding rows jekyll.rows
    newest_filtered [] finds = first_moment excerpts view p zone zoned-at
    newest_filtered (post ∷ posts) finds = let d = finds.0.is-date in rw (d.some, d.short) (date_filtered excerpts view p zone zoned-at post.date d)

    pub last_update_prints : (all : Items) (posts : List Post) → take 10 (item_list all) ≡ map post_value posts → FindsAll view posts → view (SiteVar (codes "posts")) ≡ Known (list all) → (out : List ℕ) →
        interpret view (leaf_node excerpts enter p (leaves.Output nodes.last_update) (state out))
        ≡ guarded (too_long out (last_update (offset_in zone) posts)) (fault p) (reached_with (out ++ last_update (offset_in zone) posts))
    last_update_prints all posts e finds h out =
        let t : List ℕ = last_update (offset_in zone) posts in
        prints excerpts enter view p nodes.last_update t out false (long t)
        (interpret_bind view (operand excerpts (untested p) no_pairs nodes.last_update.operand) (λ x. filtered excerpts p no_pairs nodes.last_update.filters x)
        ∙ ap (λ m. then_met m (λ x. interpret view (filtered excerpts p no_pairs nodes.last_update.filters x))) (newest_found all posts e finds h)
        ∙ newest_filtered posts finds)
        (λ e. cc) (too_long_behind out t)

-- ---- The outputs of an entry

module _ (excerpts : Excerpting) (enter : Enter) (view : View) (file : List ℕ) (page : ItemName) (post : Post) (others : List (List ℕ × Plain)) (around : Plain) (line : ℕ) (finds : Finds view post) where
  abbrev pub q : Place
  q = at file page ((codes "p", post_value post) ∷ others) around true line

  abbrev pub Printed : Expr → List ℕ → Type 0
  Printed e t = (out : List ℕ) → interpret view (leaf_node excerpts enter q (leaves.Output e) (state out)) ≡ guarded (too_long out t) (fault q) (reached_with (out ++ t))

  pub post_title_prints : Printed nodes.post_title (escaped (value_text post.title))
  post_title_prints out =
      let t : List ℕ = escaped (value_text post.title) in
      prints excerpts enter view q nodes.post_title t out false (long t)
      (interpret_bind view (operand excerpts q no_pairs (nodes.of_post (codes "title"))) (λ x. filtered excerpts q no_pairs nodes.post_title.filters x)
      ∙ ap (λ m. then_met m (λ x. interpret view (filtered excerpts q no_pairs nodes.post_title.filters x))) (title_found excerpts view file page post others around line finds)
      ∙ xml_escaped excerpts view q post.title)
      (λ e. cc) (too_long_behind out t)

  pub post_content_prints : Printed nodes.post_content (escaped post.content)
  post_content_prints out =
      let t : List ℕ = escaped post.content in
      prints excerpts enter view q nodes.post_content t out false (long t)
      (interpret_bind view (operand excerpts q no_pairs (nodes.of_post (codes "content"))) (λ x. filtered excerpts q no_pairs nodes.post_content.filters x)
      ∙ ap (λ m. then_met m (λ x. interpret view (filtered excerpts q no_pairs nodes.post_content.filters x))) (content_found excerpts view file page post others around line finds)
      ∙ xml_escaped excerpts view q (text post.content))
      (λ e. cc) (too_long_behind out t)

  pub post_date_prints : (zone : Plain) → view (SiteVar (codes "timezone")) ≡ Known zone → Printed nodes.post_date (date_text (offset_in zone) post.date)
  post_date_prints zone zoned-at out =
      let t : List ℕ = date_text (offset_in zone) post.date in
      prints excerpts enter view q nodes.post_date t out false (long t)
      (interpret_bind view (operand excerpts q no_pairs (nodes.of_post (codes "date"))) (λ x. filtered excerpts q no_pairs nodes.post_date.filters x)
      ∙ ap (λ m. then_met m (λ x. interpret view (filtered excerpts q no_pairs nodes.post_date.filters x))) (date_found excerpts view file page post others around line finds)
      ∙ date_filtered excerpts view q zone zoned-at post.date finds.is-date)
      (λ e. cc) (too_long_behind out t)

  pub post_address_prints : (url baseurl : Plain) → view (SiteVar (codes "url")) ≡ Known url → view (SiteVar (codes "baseurl")) ≡ Known baseurl → Printed nodes.post_address (escaped (base_of url baseurl ++ post.url))
  post_address_prints url baseurl h k out =
      let t : List ℕ = base_of url baseurl ++ post.url in
      prints excerpts enter view q nodes.post_address (escaped t) out (long t) (long (escaped t))
      (interpret_bind view (operand excerpts q no_pairs (nodes.of_post (codes "url"))) (λ x. filtered excerpts q no_pairs nodes.post_address.filters x)
      ∙ ap (λ m. then_met m (λ x. interpret view (filtered excerpts q no_pairs nodes.post_address.filters x))) (url_found excerpts view file page post others around line finds)
      ∙ address_filtered excerpts view q url baseurl h k post.url finds.rooted)
      (too_long_escaped out t) (too_long_behind out (escaped t))
