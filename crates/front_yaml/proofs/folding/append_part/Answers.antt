use Rattle.std.proofs.Common.{◌≡◌, ◌∙◌, ◌++◌, ◌+◌, sym, ap, take}
use Rattle.std.specs.List.{prefix_len}
use Rattle.front_yaml.specs.Bytes.{is_gap}
use Rattle.front_yaml.specs.Folding.{joint, between}
use Rattle.front_yaml.proofs.FoldLaws.{break_taken, white_taken, solid_taken, gap_count}
use Rattle.front_yaml.proofs.folding.append_part.Goals as goal

pub returns-then-c-eq10 : goal.returns-then-c-eq10
returns-then-c-eq10 c =
    let gap : c.blank_len-gap.result ≡ prefix_len is_gap c.tail-rest.result.now = c.blank_len-gap.ensures.value in
    break_taken c.args.escapes c.args.text.now c.args.out.now.items c.append_joint.new.out.items _ c.requires c.if-c-eq10.true
    (ap (λ g. 1 + g) (gap ∙ ap (prefix_len is_gap) c.tail-rest.ensures))
    (c.in_ok-append_joint.ensures ∙ ap (λ k. c.args.out.now.items ++ joint (between k)) (gap_count c.args.text.now _ _ _ _ c.tail-rest.ensures gap c.front.ensures c.line_ends.ensures.value))

pub returns-then-is_white : goal.returns-then-is_white
returns-then-is_white c =
    white_taken c.args.escapes c.args.text.now c.args.out.now.items c.append.new.out.items _ c.requires (sym c.is_white.ensures ∙ c.if-is_white.true) c.white_len.ensures.value
    (c.in_ok-append.ensures ∙ ap (λ xs. c.args.out.now.items ++ xs) c.kept_white.ensures)

pub returns : goal.returns
returns c =
    solid_taken c.args.escapes c.args.text.now c.args.out.now.items c.append-2.new.out.items _ c.requires (sym c.is_white.ensures ∙ c.if-is_white.false) c.if-c-eq10.false (sym c.is_escape.ensures ∙ c.if-is_escape.false) c.solid_len-solid.ensures.value
    (c.in_ok-append-2.ensures ∙ ap (λ xs. c.args.out.now.items ++ xs) (c.front-2.ensures ∙ ap (λ k. take k c.args.text.now) c.solid_len-solid.ensures.value))
