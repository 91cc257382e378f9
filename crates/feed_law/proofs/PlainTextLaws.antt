-- A template without `{` is one text, which is written as it is.
use Rattle.std.proofs.Common.{◌≡◌, ◌≤◌, ◌∙◌, refl, ap, sym, ℕ, suc, ◌+◌, ◌-◌, ◌==◌, nat_lt, max, Bool, true, false, ◌||◌, List, [], ◌∷◌, length, take, drop, arith, if◌then◌else◌, None, Ok, Err, take_all}
use Rattle.std.proofs.lemmas.List.{drop_all}
use Rattle.site_base.specs.Recursion.{down, down_by}
use Rattle.site_base.specs.declared.faults.FaultKind.TheVariants.{OutputTooLong}
use Rattle.site_base.specs.declared.item_name.ItemName.{ItemName}
use Rattle.feed_pages.specs.Located.{has_brace}
use Rattle.liquid_grammar.specs.Pieces.{Cut, Rest, cut_from, cut_is, cut_of, cut_step, first_place, front_of, line_ends, markup_at, opens, size, text_piece, then_rest, with_front}
use Rattle.liquid_grammar.specs.Tags.{inside}
use Rattle.liquid_grammar.specs.Trees.{done, leaf, tree, tree_of_cut}
use Rattle.liquid_grammar.specs.declared.item.Leaf.TheVariants as leaves
use Rattle.liquid_grammar.specs.declared.piece.Front.{Front}
use Rattle.liquid_grammar.specs.declared.piece.Front.TheVariants.{Text}
use Rattle.liquid_eval.specs.Nodes.{entering, excerpts_made}
use Rattle.liquid_eval.specs.Nodes as eval
use Rattle.liquid_eval.specs.Texts.{parsed_evaluation, text_evaluation}
use Rattle.liquid_values.specs.Places.{Place, at_start, of_body, site_fault}
use Rattle.read_record.specs.Queries.{Give, View, interpret}
use Rattle.site_base.specs.Plain.{nil}
use Rattle.feed_law.specs.FeedItems.{page}
use Rattle.filter_base.specs.Limits.{most_text}
use Rattle.feed_law.specs.FeedPieces.{excess_at, met, own, written}
use Rattle.feed_law.specs.PlainTexts.{PlainItemLaw, PlainPageLaw, PlainTextLaw, whole_text}
use Rattle.feed_law.proofs.FeedItemLaws.{item_met, made_page}
use Rattle.feed_law.proofs.FeedOutputs.{at, reached_with, state}
use Rattle.feed_law.proofs.FeedRun.{Prints, nothing, own_writes, then_leaf}
use Rattle.feed_law.proofs.MetLaws.{carried_whole, interpret_bind, then_met}

-- ---- The tree

no_first : (a b : Bool) → (a || b) ≡ false → a ≡ false
no_first true b h = h
no_first false b h = refl

no_other : (a b : Bool) → (a || b) ≡ false → b ≡ false
no_other true b h = absurd cc
no_other false b h = h

-- no piece begins in it
opens_nowhere : (t : List ℕ) → has_brace t ≡ false → first_place opens t ≡ length t
opens_nowhere [] h = refl
opens_nowhere (c ∷ cs) h =
    let first : (c == 123) ≡ false = no_first (c == 123) _ h in
    let other : (123 == c) ≡ false = grind (arith, first) in
    rw other (ap suc (opens_nowhere cs (no_other (c == 123) _ h)))

module _ (c : ℕ) (cs : List ℕ) (none : has_brace (c ∷ cs) ≡ false) where
  abbrev t : List ℕ
  t = c ∷ cs

  abbrev start : Rest
  start = record { at = 0; line = 1; trims = false; text = t }

  abbrev later : Rest → Cut
  later r = down_by size (cut_is [] None) cut_step (suc (length cs)) r

  abbrev after_front : Front → Cut
  after_front front = then_rest front later start

  abbrev after_empty : Bool → Cut
  after_empty b = if b then cut_is [] None else after_front (front_of t)

  abbrev after_place : ℕ → Cut
  after_place n = after_front (if nat_lt 0 n then Text n else markup_at t)

  abbrev after_some : Bool → Cut
  after_some b = after_front (if b then Text (length t) else markup_at t)

  abbrev after_text : List ℕ → Cut
  after_text left = with_front (text_piece (length t) start ∷ []) (later (record { at = 0 + length t; line = 1 + line_ends (take (length t) t); trims = false; text = left }))

  abbrev one_piece : Cut
  one_piece = cut_is (text_piece (length t) start ∷ []) None

  -- the text is one piece
  cut_whole : cut_of t ≡ one_piece
  unfolding cut_from down
  cut_whole =
      let empty : (length t == 0) ≡ false = grind arith in
      let some : nat_lt 0 (length t) ≡ true = grind arith in
      let last : after_text (drop (length t) t) ≡ one_piece = ap after_text (drop_all (length t) t (omega arith)) in
      ap after_empty empty ∙ ap after_place (opens_nowhere t none) ∙ ap after_some some ∙ last

  -- of which nothing is stripped
  inside_whole : inside t (text_piece (length t) start).inner ≡ t
  inside_whole = let long : length t ≤ max 0 (0 + length t - 0) - 0 = omega arith in rw (drop_all (length t) t (omega arith)) (take_all (max 0 (0 + length t - 0) - 0) t long)

  pub tree_plain : tree t ≡ Ok (leaf 1 (leaves.Text t) done)
  tree_plain = ap (tree_of_cut t) cut_whole ∙ rw inside_whole refl

tree_empty : tree [] ≡ Ok done
unfolding cut_from down
tree_empty = refl

-- ---- What it comes to

written_whole : (file t : List ℕ) → written file [] (own t ∷ []) ≡ whole_text file t
written_whole file t =
    let same : 0 + length t ≡ length t = omega arith in
    ap (λ (n : ℕ). if nat_lt most_text n then Err (excess_at file (own t)) else Ok t) same

module _ (view : View) (file : List ℕ) (n : ItemName) where
  abbrev top : Place
  top = at file n [] nil false 0

  text_prints : (t : List ℕ) → Prints (excerpts_made 100) (entering excerpts_made 100) view file top (leaf 1 (leaves.Text t) done) (own t ∷ [])
  text_prints t =
      then_leaf (excerpts_made 100) (entering excerpts_made 100) view file top (own_writes (excerpts_made 100) (entering excerpts_made 100) view file n [] nil false 0 1 t) (nothing (excerpts_made 100) (entering excerpts_made 100) view file top)

  pub plain_evaluated : (t : List ℕ) → has_brace t ≡ false → interpret view (text_evaluation (at_start file n of_body) t) ≡ met (whole_text file t)
  plain_evaluated [] none = ap (λ r. interpret view (parsed_evaluation (at_start file n of_body) r)) tree_empty
  plain_evaluated (c ∷ cs) none =
      ap (λ r. interpret view (parsed_evaluation (at_start file n of_body) r)) (tree_plain c cs none)
      ∙ interpret_bind view (eval.nodes (excerpts_made 100) (entering excerpts_made 100) top (leaf 1 (leaves.Text (c ∷ cs)) done) (state [])) (λ r. Give r.state.out)
      ∙ ap (λ m. then_met m (λ r. interpret view (Give r.state.out))) ((text_prints (c ∷ cs)).prints [])
      ∙ carried_whole file reached_with (λ r. interpret view (Give r.state.out)) (λ out. refl) (own (c ∷ cs) ∷ []) []
      ∙ ap met (written_whole file (c ∷ cs))

pub plain_text_law : PlainTextLaw
plain_text_law view t none file n = plain_evaluated view file n t none

pub plain_item_law : PlainItemLaw
plain_item_law view t none n h = item_met view t n h (whole_text n.path t) (plain_evaluated view n.path n t none)

whole_is : (file t u : List ℕ) → whole_text file t ≡ Ok u → u ≡ t
whole_is file t u = go (nat_lt most_text (length t))
  where
    go : (b : Bool) → (if b then Err (site_fault file 0 OutputTooLong) else Ok t) ≡ Ok u → u ≡ t
    go true e = cc
    go false e = cc

pub plain_page_law : PlainPageLaw
plain_page_law view t none n h made e =
    let m = made_page (whole_text n.path t) made (sym (plain_item_law view t none n h) ∙ e) in
    sym m.2 ∙ ap page (whole_is n.path t m.0 m.1)
