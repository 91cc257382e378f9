-- Whether blocks leave a paragraph open is seen at their open end, and a lazy line goes to it.
use Rattle.std.proofs.Common.{List, ap, false, refl, true, ℕ, ◌∙◌, ◌≡◌}
use Rattle.markdown_grammar.specs.Blocks.{rules}
use Rattle.markdown_grammar.specs.Columns.{lazy_line}
use Rattle.markdown_grammar.specs.Containers.{block_quote, list_item}
use Rattle.markdown_grammar.specs.Extents.{BlocksOf, Rules, blank_line, container, ends_in_paragraph, leaf, no_blocks}
use Rattle.markdown_grammar.specs.LazyLines.{with_text}
use Rattle.markdown_grammar.specs.Leaves.{atx_heading, fenced_code, html_block, indented_code, paragraph, setext_heading, thematic_break}
use Rattle.markdown_grammar.specs.Lines.{trim_front}
use Rattle.markdown_grammar.specs.OpenEnds.{EndsClosed, IsOpenEnd, OpenEnd, container_open, followed_by, is_paragraph_open, leaf_open, line_step, none_open, whole}

module _ {Line' Leaf' Box : Type 0} (r : Rules Line' Leaf' Box) where
  abbrev Bs : Type 0
  Bs = BlocksOf Line' Leaf' Box

  abbrev IsOne : Bs → Type 0
  IsOne no_blocks = ⊥
  IsOne (blank_line l rest) = Unit {0}
  IsOne (leaf s rest) = Unit {0}
  IsOne (container k body rest) = Unit {0}

  open_leaf : (s : Leaf') (rest : Bs) → IsOne rest → ends_in_paragraph r (leaf s rest) ≡ ends_in_paragraph r rest
  open_leaf s no_blocks h = absurd h
  open_leaf s (blank_line g rest) h = refl
  open_leaf s (leaf t rest) h = refl
  open_leaf s (container k body rest) h = refl

  open_container : (k : Box) (body rest : Bs) → IsOne rest → ends_in_paragraph r (container k body rest) ≡ ends_in_paragraph r rest
  open_container k body no_blocks h = absurd h
  open_container k body (blank_line g rest) h = refl
  open_container k body (leaf t rest) h = refl
  open_container k body (container j b rest) h = refl

  joined_one : (xs ys : Bs) → IsOne ys → IsOne (followed_by r xs ys)
  joined_one no_blocks ys h = h
  joined_one (blank_line l xs) ys h = tt
  joined_one (leaf s xs) ys h = tt
  joined_one (container k body xs) ys h = tt

  open_joined : (xs ys : Bs) → IsOne ys → ends_in_paragraph r (followed_by r xs ys) ≡ ends_in_paragraph r ys
  open_joined no_blocks ys h = refl
  open_joined (blank_line g xs) ys h = open_joined xs ys h
  open_joined (leaf s xs) ys h = open_leaf s (followed_by r xs ys) (joined_one xs ys h) ∙ open_joined xs ys h
  open_joined (container k body xs) ys h = open_container k body (followed_by r xs ys) (joined_one xs ys h) ∙ open_joined xs ys h

  open_closed : (b : Bs) → EndsClosed r b → ends_in_paragraph r b ≡ false
  open_closed no_blocks h = refl
  open_closed (blank_line g no_blocks) h = refl
  open_closed (blank_line g (blank_line x rest)) h = open_closed (blank_line x rest) h
  open_closed (blank_line g (leaf s rest)) h = open_closed (leaf s rest) h
  open_closed (blank_line g (container k body rest)) h = open_closed (container k body rest) h
  open_closed (leaf s no_blocks) h = absurd h
  open_closed (leaf s (blank_line x rest)) h = open_closed (blank_line x rest) h
  open_closed (leaf s (leaf t rest)) h = open_closed (leaf t rest) h
  open_closed (leaf s (container k body rest)) h = open_closed (container k body rest) h
  open_closed (container k body no_blocks) h = absurd h
  open_closed (container k body (blank_line x rest)) h = open_closed (blank_line x rest) h
  open_closed (container k body (leaf t rest)) h = open_closed (leaf t rest) h
  open_closed (container k body (container j b rest)) h = open_closed (container j b rest) h

  pub open_end : (s : OpenEnd r) → IsOpenEnd r s → ends_in_paragraph r (whole r s) ≡ is_paragraph_open r s
  open_end (none_open before) h = open_closed before h
  open_end (leaf_open before s) h = open_joined before (leaf s no_blocks) tt
  open_end (container_open before k inner) h = open_joined before (container k (whole r inner) no_blocks) tt ∙ open_end inner h

pub lazy_step : (t : List ℕ) (s : OpenEnd rules) → is_paragraph_open rules s ≡ true → line_step rules s (lazy_line t) ≡ with_text (trim_front t) s
lazy_step t (none_open before) h = absurd cc
lazy_step t (leaf_open before (paragraph texts)) h = refl
lazy_step t (leaf_open before (setext_heading level texts)) h = absurd cc
lazy_step t (leaf_open before (atx_heading level line)) h = absurd cc
lazy_step t (leaf_open before thematic_break) h = absurd cc
lazy_step t (leaf_open before (indented_code texts pending)) h = absurd cc
lazy_step t (leaf_open before (fenced_code i mark len info texts is_closed)) h = absurd cc
lazy_step t (leaf_open before (html_block kind texts is_closed)) h = absurd cc
lazy_step t (container_open before block_quote inner) h = ap (λ (x : OpenEnd rules). container_open before block_quote x) (lazy_step t inner h)
lazy_step t (container_open before (list_item kind number content) inner) h = ap (λ (x : OpenEnd rules). container_open before (list_item kind number content) x) (lazy_step t inner h)
