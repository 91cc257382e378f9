use Rattle.std.proofs.Common.{List, ap, sym, ℕ, ◌∙◌}
use Rattle.markdown_grammar.specs.Blocks.{Blocks, blocks}
use Rattle.markdown_grammar.specs.Columns.{whole_lines}
use Rattle.markdown_grammar.specs.Lines.{text_lines}
use Rattle.cm_blocks.specs.Tokens.{tokens}
use Rattle.cm_blocks.proofs.LineLaws.{no_nul}
use Rattle.cm_blocks.proofs.WalkedText.{blocks_of_is, if_ok}
use Rattle.cm_blocks.proofs.open_walk.block_tokens.Goals as goal

pub returns-then-has_nul : goal.returns-then-has_nul
returns-then-has_nul c =
    if_ok c.line_tokens.result _ _ c.line_tokens.ensures
    (λ found e. e ∙ ap (λ (t : List ℕ). tokens (blocks (whole_lines (text_lines t)))) (c.as_str.ensures ∙ c.in_ok-text.ensures) ∙ ap (λ (b : Blocks). tokens b) (sym (blocks_of_is c.args.text.now)))

pub returns : goal.returns
returns c =
    if_ok c.line_tokens-2.result _ _ c.line_tokens-2.ensures
    (λ found e. e ∙ ap (λ (t : List ℕ). tokens (blocks (whole_lines (text_lines t)))) (sym (no_nul c.args.text.now (sym c.has_nul.ensures ∙ c.if-has_nul.false))) ∙ ap (λ (b : Blocks). tokens b) (sym (blocks_of_is c.args.text.now)))
