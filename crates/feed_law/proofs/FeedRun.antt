-- The evaluation of the feed's template: its nodes, its loop over the posts, and the whole.
use Rattle.std.proofs.Common.{◌≡◌, ◌∙◌, refl, ap, ℕ, ◌+◌, Bool, true, false, List, [], ◌∷◌, ◌++◌, append-nil, length, map, codes, flat_map}
use Rattle.site_base.specs.Plain.{Plain, nil, no_pairs}
use Rattle.site_base.specs.Values.{value_text}
use Rattle.site_base.specs.declared.faults.FaultKind.TheVariants.{Nesting}
use Rattle.site_base.specs.declared.faults.SiteFault.{SiteFault}
use Rattle.site_base.specs.declared.item_name.ItemName.{ItemName}
use Rattle.read_record.specs.Queries.{Query, Give, View, Met, Gave, interpret, Failed}
use Rattle.liquid_grammar.specs.Trees.{Tree, done, leaf, part}
use Rattle.liquid_grammar.specs.declared.item.Block.TheVariants as blocks
use Rattle.liquid_grammar.specs.declared.item.Leaf.{Leaf}
use Rattle.liquid_grammar.specs.declared.item.Leaf.TheVariants as leaves
use Rattle.liquid_grammar.specs.declared.item.Part.TheVariants.{Body}
use Rattle.liquid_grammar.specs.declared.expression.Expr.{Expr}
use Rattle.liquid_values.specs.LoopValues.{for_loop}
use Rattle.liquid_values.specs.Names.{Excerpting}
use Rattle.liquid_values.specs.Places.{Place, at_line, at_start, of_body}
use Rattle.liquid_tags.specs.Elements.{loop_elements}
use Rattle.liquid_tags.specs.States.{written_or}
use Rattle.liquid_tags.specs.declared.state.State.{State}
use Rattle.liquid_eval.specs.Loops.{taking, turn, turn_place, go_on, over}
use Rattle.liquid_eval.specs.Nodes as eval
use Rattle.liquid_eval.specs.Nodes.{leaf_node, block_node, follow, entering, evaluation, excerpts_made}
use Rattle.liquid_eval.specs.Reached.{Reached, onward, Enter}
use Rattle.liquid_eval.specs.Texts.{text_evaluation, parsed_evaluation}
use Rattle.feed_pages.specs.Feed.{Post, escaped, title_text, date_text, last_update}
use Rattle.feed_law.specs.FeedNodes as nodes
use Rattle.feed_law.specs.FeedNodes.{entry_nodes, loop_nodes, feed_nodes, ten_posts}
use Rattle.feed_law.specs.FeedPieces.{Piece, own, shown, excess_at, entry_pieces, feed_pieces, written, met}
use Rattle.feed_pages.specs.FeedTemplate.{feed_template}
use Rattle.feed_law.specs.FeedViews.{is_flat, Finds, FindsAll, Given, FeedView, base, offset_of, post_value}
use Rattle.feed_law.proofs.FeedFields.{title_prints, title_fails, own_address_prints, last_update_prints, post_title_prints, post_address_prints, post_date_prints, post_content_prints}
use Rattle.feed_law.proofs.FeedOutputs.{state, at, reached_with, wrote}
use Rattle.feed_law.proofs.FeedTree.{feed_tree}
use Rattle.feed_law.proofs.MetLaws.{then_met, interpret_bind, guarded, then_guarded, too_long, carried, carried_then, carried_whole}

-- ---- Nodes one after another

module _ (excerpts : Excerpting) (enter : Enter) (view : View) (file : List ℕ) (p : Place) where
  -- a leaf writes a piece, behind whatever stands before it
  pub record Writes (line : ℕ) (l : Leaf) (c : Piece) : Type 0 where
    pub writes : (out : List ℕ) → interpret view (leaf_node excerpts enter (at_line line p) l (state out)) ≡ guarded (too_long out c.text) (excess_at file c) (reached_with (out ++ c.text))

  -- nodes write these pieces
  pub record Prints (t : Tree) (cs : List Piece) : Type 0 where
    pub prints : (out : List ℕ) → interpret view (eval.nodes excerpts enter p t (state out)) ≡ carried file out cs reached_with

  pub nothing : Prints done []
  nothing = record { prints = λ out. refl }

  pub then_leaf : {line : ℕ} {l : Leaf} {rest : Tree} {c : Piece} {cs : List Piece} → Writes line l c → Prints rest cs → Prints (leaf line l rest) (c ∷ cs)
  then_leaf {line} {l} {rest} {c} {cs} first behind = record {
    prints = λ out.
        interpret_bind view (leaf_node excerpts enter (at_line line p) l (state out)) (λ r. follow r (eval.nodes excerpts enter p rest r.state))
        ∙ ap (λ m. then_met m (λ r. interpret view (follow r (eval.nodes excerpts enter p rest r.state)))) (first.writes out)
        ∙ then_guarded (too_long out c.text) (excess_at file c) (reached_with (out ++ c.text)) (λ r. interpret view (follow r (eval.nodes excerpts enter p rest r.state)))
        ∙ ap (λ m. guarded (too_long out c.text) (excess_at file c) m) (behind.prints (out ++ c.text));
  }

module _ (excerpts : Excerpting) (enter : Enter) (view : View) (file : List ℕ) (page : ItemName) (locals : List (List ℕ × Plain)) (around : Plain) (looping : Bool) (before : ℕ) where
  -- a text of the template
  pub own_writes : (line : ℕ) (t : List ℕ) → Writes excerpts enter view file (at file page locals around looping before) line (leaves.Text t) (own t)
  own_writes line t = record {
    writes = λ out.
        interpret_bind view (written_text out) onward ∙ wrote view (excess_at file (own t)) t out;
  }
    where
      written_text : List ℕ → Query SiteFault State
      written_text out = written_or (excess_at file (own t)) t (state out)

-- ---- An entry

module _ (excerpts : Excerpting) (enter : Enter) (view : View) (g : Given) (h : FeedView view g) (file : List ℕ) (page : ItemName) (post : Post) (others : List (List ℕ × Plain)) (around : Plain) (before : ℕ) (finds : Finds view post) where
  abbrev within : Place
  within = at file page ((codes "p", post_value post) ∷ others) around true before

  abbrev OutputWrites : Expr → List ℕ → Type 0
  OutputWrites e t = Writes excerpts enter view file within 6 (leaves.Output e) (shown 6 t)

  title_writes : OutputWrites nodes.post_title (escaped (value_text post.title))
  title_writes = record { writes = post_title_prints excerpts enter view file page post others around 6 finds }

  address_writes : OutputWrites nodes.post_address (escaped (base g ++ post.url))
  address_writes = record { writes = post_address_prints excerpts enter view file page post others around 6 finds g.url g.baseurl h.url h.baseurl }

  date_writes : OutputWrites nodes.post_date (date_text (offset_of g) post.date)
  date_writes = record { writes = post_date_prints excerpts enter view file page post others around 6 finds g.zone h.zone }

  content_writes : OutputWrites nodes.post_content (escaped post.content)
  content_writes = record { writes = post_content_prints excerpts enter view file page post others around 6 finds }

  abbrev text_writes : (t : List ℕ) → Writes excerpts enter view file within 6 (leaves.Text t) (own t)
  text_writes t = own_writes excerpts enter view file page ((codes "p", post_value post) ∷ others) around true before 6 t

  pub entry_prints : Prints excerpts enter view file within entry_nodes (entry_pieces (offset_of g) (base g) post)
  entry_prints =
      then_leaf excerpts enter view file within (text_writes (codes "<entry><title>")) (
      then_leaf excerpts enter view file within title_writes (
      then_leaf excerpts enter view file within (text_writes (codes "</title><id>")) (
      then_leaf excerpts enter view file within address_writes (
      then_leaf excerpts enter view file within (text_writes (codes "</id><link href=\"")) (
      then_leaf excerpts enter view file within address_writes (
      then_leaf excerpts enter view file within (text_writes (codes "\"/><updated>")) (
      then_leaf excerpts enter view file within date_writes (
      then_leaf excerpts enter view file within (text_writes (codes "</updated><content type=\"html\">")) (
      then_leaf excerpts enter view file within content_writes (
      then_leaf excerpts enter view file within (text_writes (codes "</content></entry>\n")) (nothing excerpts enter view file within)))))))))))

-- ---- The loop

module _ (inner : Excerpting) (deeper : Enter) (enter : Enter) (enters : (tag p : Place) (t : Tree) (s : State) → enter tag p t s ≡ eval.nodes inner deeper p t s)
    (view : View) (g : Given) (h : FeedView view g) (file : List ℕ) (page : ItemName) where
  abbrev tag : Place
  tag = at file page [] nil false 6

  abbrev kept : List ℕ → Met SiteFault State
  kept out = Gave (state out)

  abbrev turn_of : ℕ → ℕ → Plain → State → Query SiteFault Reached
  turn_of len passed v s = turn enter tag (codes "p") entry_nodes len passed v s

  abbrev entries : List Post → List Piece
  entries posts = flat_map (entry_pieces (offset_of g) (base g)) posts

  turn_prints : (len passed : ℕ) (post : Post) → Finds view post → (out : List ℕ) →
      interpret view (turn_of len passed (post_value post) (state out)) ≡ carried file out (entry_pieces (offset_of g) (base g) post) reached_with
  turn_prints len passed post finds out =
      let loop : Plain = for_loop len passed nil in
      ap (λ q. interpret view q) (enters tag (turn_place tag (codes "p") len passed (post_value post)) entry_nodes (state out))
      ∙ (entry_prints inner deeper view g h file page post ((codes "forloop", loop) ∷ []) loop 6 finds).prints out

  turns_print : (len passed : ℕ) (posts : List Post) → FindsAll view posts → (out : List ℕ) →
      interpret view (taking (turn_of len) passed (map post_value posts) (state out)) ≡ carried file out (entries posts) kept
  turns_print len passed [] finds out = refl
  turns_print len passed (post ∷ posts) finds out =
      interpret_bind view (turn_of len passed (post_value post) (state out)) (λ r. go_on r (taking (turn_of len) (passed + 1) (map post_value posts) r.state))
      ∙ ap (λ m. then_met m (λ r. interpret view (go_on r (taking (turn_of len) (passed + 1) (map post_value posts) r.state)))) (turn_prints len passed post finds.0 out)
      ∙ carried_then file reached_with (λ r. interpret view (go_on r (taking (turn_of len) (passed + 1) (map post_value posts) r.state))) kept (entries posts)
      (turns_print len (passed + 1) posts finds.1) (entry_pieces (offset_of g) (base g) post) out

  module _ (excerpts : Excerpting) where
    elements_found : interpret view (loop_elements excerpts tag no_pairs ten_posts) ≡ Gave (map post_value g.posts)
    elements_found = rw h.posts (ap (λ (vs : List Plain). Gave vs) h.first-ten)

    over_prints : (posts : List Post) → FindsAll view posts → (out : List ℕ) →
        interpret view (over enter tag (codes "p") (part 6 Body entry_nodes done) (map post_value posts) (state out)) ≡ carried file out (entries posts) reached_with
    over_prints [] finds out = refl
    over_prints (post ∷ posts) finds out =
        let len : ℕ = length (map post_value (post ∷ posts)) in
        interpret_bind view (taking (turn_of len) 0 (map post_value (post ∷ posts)) (state out)) onward
        ∙ ap (λ m. then_met m (λ s. interpret view (onward s))) (turns_print len 0 (post ∷ posts) finds out)
        ∙ carried_then file kept (λ s. interpret view (onward s)) reached_with [] (λ o. refl) (entries (post ∷ posts)) out
        ∙ ap (λ (cs : List Piece). carried file out cs reached_with) (append-nil (entries (post ∷ posts)))

    block_prints : (out : List ℕ) → interpret view (block_node excerpts enter tag (blocks.For ten_posts) (part 6 Body entry_nodes done) (state out)) ≡ carried file out (entries g.posts) reached_with
    block_prints out =
        interpret_bind view (loop_elements excerpts tag no_pairs ten_posts) (λ vs. over enter tag (codes "p") (part 6 Body entry_nodes done) vs (state out))
        ∙ ap (λ m. then_met m (λ vs. interpret view (over enter tag (codes "p") (part 6 Body entry_nodes done) vs (state out)))) elements_found
        ∙ over_prints g.posts h.found out

    pub loop_prints : (rest : Tree) (behind : List Piece) → Prints excerpts enter view file (at file page [] nil false 0) rest behind →
        Prints excerpts enter view file (at file page [] nil false 0) (loop_nodes rest) (entries g.posts ++ behind)
    loop_prints rest behind more = record {
      prints = λ out.
          let after : Reached → Query SiteFault Reached = λ r. follow r (eval.nodes excerpts enter (at file page [] nil false 0) rest r.state) in
          interpret_bind view (block_node excerpts enter tag (blocks.For ten_posts) (part 6 Body entry_nodes done) (state out)) after
          ∙ ap (λ m. then_met m (λ r. interpret view (after r))) (block_prints out)
          ∙ carried_then file reached_with (λ r. interpret view (after r)) reached_with behind more.prints (entries g.posts) out;
    }

-- ---- The whole

module _ (view : View) (g : Given) (h : FeedView view g) (flat : is_flat g ≡ true) (file : List ℕ) (page : ItemName) where
  abbrev top : Place
  top = at file page [] nil false 0

  abbrev excerpts : Excerpting
  excerpts = excerpts_made 100

  abbrev enter : Enter
  enter = entering excerpts_made 100

  enters : (tag p : Place) (t : Tree) (s : State) → enter tag p t s ≡ eval.nodes (excerpts_made 99) (entering excerpts_made 99) p t s
  unfolding entering
  enters from p t s = refl

  abbrev head_writes : (line : ℕ) (t : List ℕ) → Writes excerpts enter view file top line (leaves.Text t) (own t)
  head_writes line t = own_writes excerpts enter view file page [] nil false 0 line t

  site_title_writes : Writes excerpts enter view file top 3 (leaves.Output nodes.title) (shown 3 (escaped (title_text g.title)))
  site_title_writes = record { writes = title_prints excerpts enter view file page 3 g.title h.title flat }

  own_address_writes : Writes excerpts enter view file top 4 (leaves.Output nodes.own_address) (shown 4 (escaped (base g ++ codes "/feed.xml")))
  own_address_writes = record { writes = own_address_prints excerpts enter view file page 4 g.url g.baseurl h.url h.baseurl }

  update_writes : Writes excerpts enter view file top 5 (leaves.Output nodes.last_update) (shown 5 (last_update (offset_of g) g.posts))
  update_writes = record { writes = last_update_prints excerpts enter view file page 5 g.zone h.zone g.all g.posts h.first-ten h.found h.posts }

  abbrev pieces : List Piece
  pieces = feed_pieces (offset_of g) (base g) g.title g.posts

  feed_prints : Prints excerpts enter view file top feed_nodes pieces
  feed_prints =
      then_leaf excerpts enter view file top (head_writes 1 (codes "<?xml version=\"1.0\" encoding=\"utf-8\"?>\n<feed xmlns=\"http://www.w3.org/2005/Atom\">\n<title>")) (
      then_leaf excerpts enter view file top site_title_writes (
      then_leaf excerpts enter view file top (head_writes 3 (codes "</title>\n<id>")) (
      then_leaf excerpts enter view file top own_address_writes (
      then_leaf excerpts enter view file top (head_writes 4 (codes "</id>\n<updated>")) (
      then_leaf excerpts enter view file top update_writes (
      then_leaf excerpts enter view file top (head_writes 5 (codes "</updated>\n")) (
      loop_prints (excerpts_made 99) (entering excerpts_made 99) enter enters view g h file page excerpts (nodes.words 7 (codes "</feed>\n") done) (own (codes "</feed>\n") ∷ [])
      (then_leaf excerpts enter view file top (head_writes 7 (codes "</feed>\n")) (nothing excerpts enter view file top)))))))))

  -- what the template comes to
  pub feed_evaluated : interpret view (text_evaluation (at_start file page of_body) feed_template) ≡ met (written file [] pieces)
  feed_evaluated =
      ap (λ t. interpret view (parsed_evaluation (at_start file page of_body) t)) feed_tree
      ∙ interpret_bind view (eval.nodes excerpts enter top feed_nodes (state [])) (λ r. Give r.state.out)
      ∙ ap (λ m. then_met m (λ r. interpret view (Give r.state.out))) (feed_prints.prints [])
      ∙ carried_whole file reached_with (λ r. interpret view (Give r.state.out)) (λ out. refl) pieces []

-- a title that nests too deep ends it
module _ (view : View) (g : Given) (h : FeedView view g) (deep : is_flat g ≡ false) (file : List ℕ) (page : ItemName) where
  abbrev start : Place
  start = at file page [] nil false 0

  abbrev nodes_query : Tree → List ℕ → Query SiteFault Reached
  nodes_query t out = eval.nodes (excerpts_made 100) (entering excerpts_made 100) start t (state out)

  abbrev behind_title : Reached → Tree → Query SiteFault Reached
  behind_title r rest = follow r (eval.nodes (excerpts_made 100) (entering excerpts_made 100) start rest r.state)

  abbrev deep_fault : SiteFault
  deep_fault = record { path = file; line = 3; kind = Nesting }

  title_ends : (rest : Tree) (out : List ℕ) → interpret view (nodes_query (nodes.shown 3 nodes.title rest) out) ≡ Failed deep_fault
  title_ends rest out =
      interpret_bind view (leaf_node (excerpts_made 100) (entering excerpts_made 100) (at_line 3 start) (leaves.Output nodes.title) (state out)) (λ r. behind_title r rest)
      ∙ ap (λ m. then_met m (λ r. interpret view (behind_title r rest))) (title_fails (excerpts_made 100) (entering excerpts_made 100) view file page 3 g.title h.title deep out)

  head_ends : (rest : Tree) (t : List ℕ) → too_long [] t ≡ false → interpret view (nodes_query (nodes.words 1 t (nodes.shown 3 nodes.title rest)) []) ≡ Failed deep_fault
  head_ends rest t short =
      interpret_bind view (leaf_node (excerpts_made 100) (entering excerpts_made 100) (at_line 1 start) (leaves.Text t) (state [])) (λ r. behind_title r (nodes.shown 3 nodes.title rest))
      ∙ ap (λ m. then_met m (λ r. interpret view (behind_title r (nodes.shown 3 nodes.title rest))))
      ((own_writes (excerpts_made 100) (entering excerpts_made 100) view file page [] nil false 0 1 t).writes [] ∙ ap (λ (b : Bool). guarded b (excess_at file (own t)) (reached_with t)) short)
      ∙ title_ends rest t

  pub deep_evaluated : interpret view (text_evaluation (at_start file page of_body) feed_template) ≡ Failed deep_fault
  deep_evaluated =
      ap (λ t. interpret view (parsed_evaluation (at_start file page of_body) t)) feed_tree
      ∙ interpret_bind view (nodes_query feed_nodes []) (λ r. Give r.state.out)
      ∙ ap (λ m. then_met m (λ r. interpret view (Give r.state.out))) (head_ends nodes.behind_title (codes "<?xml version=\"1.0\" encoding=\"utf-8\"?>\n<feed xmlns=\"http://www.w3.org/2005/Atom\">\n<title>") refl)
