use Rattle.std.proofs.Common.{arith, drop, length, sym, ◌∙◌, ◌≡◌, ◌<◌, ◌+◌, ap, false, codes}
use Rattle.std.proofs.lemmas.List.{length-drop}
use Rattle.liquid_grammar.specs.Pieces.{begins, first_place, tag_at}
use Rattle.liquid_expr.proofs.FrontFits.{mark_fits, markup_tag}
use Rattle.liquid_expr.proofs.front.markup_at.Goals as goal

pub tag_at-requires : goal.tag_at-requires
tag_at-requires c =
    let len = length-drop 2 c.args.text.now in
    omega (arith, len, c.find-end-else-begins.ensures, mark_fits 37 125 (drop 2 c.args.text.now) (omega (arith, len, c.find-end-else-begins.ensures)))

pub returns-then-end-text-2 : goal.returns-then-end-text-2
returns-then-end-text-2 c =
    let text = c.args.text.now in
    let place = first_place (begins (codes "%}")) (drop 2 text) in
    let tag : begins (codes "{{") text ≡ false = sym c.begins.ensures.as_std ∙ c.if-begins.false in
    let lt : place < length (drop 2 text) = omega (arith, length-drop 2 text, c.find-end-else-begins.ensures) in
    let len : c.find-end-else-begins.result + 2 ≡ place + 4 = omega (arith, c.find-end-else-begins.ensures) in
    c.tag_at.ensures ∙ ap (tag_at text) len ∙ sym (markup_tag text tag lt)
