use Rattle.std.proofs.Common.{◌≡◌, ◌∙◌, ◌++◌, ◌+◌, sym, ap}
use Rattle.std.specs.List.{prefix_len}
use Rattle.front_yaml.specs.Bytes.{repeated, is_gap}
use Rattle.front_yaml.proofs.FoldLaws.{line_end_taken, gap_count, not_empty}
use Rattle.front_yaml.proofs.folding.append_line_end.Goals as goal

pub returns : goal.returns
returns c =
    let gap : c.blank_len-gap.result ≡ prefix_len is_gap c.tail-rest.result.now = c.blank_len-gap.ensures.value in
    line_end_taken _ _ _ _ c.requires (not_empty _ (sym c.is_empty.ensures ∙ c.if-is_empty.false))
    (ap (λ g. 2 + g) (gap ∙ ap (prefix_len is_gap) c.tail-rest.ensures))
    (c.in_ok-append_repeated.ensures ∙ ap (λ k. c.args.out.now.items ++ repeated k 10) (gap_count c.args.text.now _ _ _ _ c.tail-rest.ensures gap c.front.ensures c.line_ends.ensures.value))
