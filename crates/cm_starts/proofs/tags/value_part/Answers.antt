use Rattle.std.proofs.Common.{◌≡◌, ◌∙◌, ◌∷◌, ◌-◌, [], None, drop, length, take}
use Rattle.markdown_grammar.specs.Readers.{exactly, white_gap, ◌or◌, ◌then◌}
use Rattle.markdown_grammar.specs.Tags.{quoted, unquoted, value_part}
use Rattle.cm_starts.proofs.Repeats.{rest_is, then_none, then_some}
use Rattle.cm_starts.proofs.tags.value_part.Goals as goal

pub returns-in_err-rest-clause-value : goal.returns-in_err-rest-clause-value
returns-in_err-rest-clause-value c =
    let none : None ≡ value_part c.args.text.now =
    then_none white_gap (exactly (61 ∷ []) then white_gap then (unquoted or quoted 39 or quoted 34)) c.args.text.now (take (length c.args.text.now - c.gap-white.result) (drop c.gap-white.result c.args.text.now)) c.gap-white.result (rest_is c.gap-white.result c.args.text.now) c.gap-white.ensures.value c.in_err-rest.ensures.value in
    c.from_residual.ensures ∙ none

pub returns-clause-value : goal.returns-clause-value
returns-clause-value c =
    then_some white_gap (exactly (61 ∷ []) then white_gap then (unquoted or quoted 39 or quoted 34)) c.args.text.now (take (length c.args.text.now - c.gap-white.result) (drop c.gap-white.result c.args.text.now)) c.gap-white.result c.in_ok-rest.rest (rest_is c.gap-white.result c.args.text.now) c.gap-white.ensures.value c.in_ok-rest.ensures.value
