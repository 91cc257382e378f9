use Rattle.std.proofs.Common.{List, Some, ap, refl, sym, ℕ, ◌++◌, ◌∙◌}
use Rattle.markdown_grammar.specs.LineStarts.{start_of}
use Rattle.markdown_grammar.specs.Places.{in_paragraph}
use Rattle.cm_containers.specs.Spots.{text_at}
use Rattle.cm_blocks.specs.Leaves.{holds_text}
use Rattle.cm_blocks.specs.LineTexts.{ended}
use Rattle.cm_blocks.specs.declared.kinds.Leaf.TheVariants as leaf
use Rattle.cm_blocks.proofs.LeafTaking.{prose_other, prose_text, prose_underlined}
use Rattle.cm_blocks.proofs.leaf_more.prose_taken.Goals as goal

pub returns-in_ok-text-in-Text : goal.returns-in_ok-text-in-Text
returns-in_ok-text-in-Text c =
    let t = text_at c.args.line.now c.args.spot in
    prose_text c.args.text t (start_of (in_paragraph (holds_text c.args.text)) c.args.spot.column t) (sym c.in-Text.is ∙ c.in_ok-next_line.ensures)
    ∙ ap (λ (u : List ℕ). Some (leaf.Paragraph u)) (sym (c.in_ok-text-in-Text.ensures ∙ ap (λ (v : List ℕ). c.args.text ++ ended v) (c.range_from.ensures.value ∙ c.behind_white-white.ensures.rest)))

pub returns-in-Underline : goal.returns-in-Underline
returns-in-Underline c =
    let t = text_at c.args.line.now c.args.spot in
    prose_underlined c.args.text t c.in-Underline.level (start_of (in_paragraph (holds_text c.args.text)) c.args.spot.column t) (sym c.in-Underline.is ∙ c.in_ok-next_line.ensures)

pub returns-in-Other : goal.returns-in-Other
returns-in-Other c =
    let t = text_at c.args.line.now c.args.spot in
    (prose_other c.args.text t (start_of (in_paragraph (holds_text c.args.text)) c.args.spot.column t) (sym c.in-Other.is ∙ c.in_ok-next_line.ensures), refl)
