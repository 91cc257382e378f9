use Rattle.std.proofs.Common.{None, Some, ap, sym, ◌≡◌, ◌∙◌}
use Rattle.cm_inlines.specs.Steps.{last_opening}
use Rattle.cm_inlines.proofs.Closing.{all_closed, bracket_placed, closes_found, closes_none}
use Rattle.cm_inlines.proofs.ListLaws.{last_lists, text_lists}
use Rattle.cm_inlines.proofs.reading.close_bracket.Goals as goal

pub reached-requires-clause-order : goal.reached-requires-clause-order
reached-requires-clause-order c =
    let found : last_opening c.args.nodes.now.items ≡ Some c.in-Some.found = ap last_opening (sym c.as_slice.ensures.value) ∙ sym c.last_opening.ensures ∙ c.in-Some.is in
    (bracket_placed c.args.text.now c.args.at c.args.nodes.now.items c.in-Some.found found c.requires.sound).0

pub reached-requires-clause-start : goal.reached-requires-clause-start
reached-requires-clause-start c =
    let found : last_opening c.args.nodes.now.items ≡ Some c.in-Some.found = ap last_opening (sym c.as_slice.ensures.value) ∙ sym c.last_opening.ensures ∙ c.in-Some.is in
    (bracket_placed c.args.text.now c.args.at c.args.nodes.now.items c.in-Some.found found c.requires.sound).1

pub close_at-requires : goal.close_at-requires
close_at-requires c =
    let found : last_opening c.args.nodes.now.items ≡ Some c.in-Some.found = ap last_opening (sym c.as_slice.ensures.value) ∙ sym c.last_opening.ensures ∙ c.in-Some.is in
    let r = c.remove_bracket.ensures in
    last_lists c.args.delimiters.now c.remove_bracket.new.self c.in-Some.found c.args.nodes.now.items c.requires.listed found c.requires.sound.slots r.runs r.brackets r.links

pub returns-in_ok-reached-in-Some-clause-value : goal.returns-in_ok-reached-in-Some-clause-value
returns-in_ok-reached-in-Some-clause-value c =
    let found : last_opening c.args.nodes.now.items ≡ Some c.in-Some.found = ap last_opening (sym c.as_slice.ensures.value) ∙ sym c.last_opening.ensures ∙ c.in-Some.is in
    all_closed c.args.links.now c.args.text.now c.args.at c.args.nodes.now.items c.close_at.new.nodes.items c.in-Some.found c.in_ok-reached-in-Some.reached c.close_at.result
    (λ n e size. closes_found c.args.links.now c.args.text.now c.args.at c.args.nodes.now.items c.close_at.new.nodes.items c.in-Some.found c.in_ok-reached-in-Some.reached n c.utf8.text c.requires.bracket c.requires.sound found c.in_ok-reached-in-Some.ensures.value c.in_ok-reached-in-Some.ensures.cut e size)
    c.close_at.ensures.value

pub returns-in_ok-push-in-None-clause-value : goal.returns-in_ok-push-in-None-clause-value
returns-in_ok-push-in-None-clause-value c =
    let none : last_opening c.args.nodes.now.items ≡ None = ap last_opening (sym c.as_slice.ensures.value) ∙ sym c.last_opening.ensures ∙ c.in-None.is in
    closes_none c.args.links.now c.args.text.now c.args.at c.args.nodes.now.items c.push.new.nodes.items c.utf8.text c.requires.bracket c.requires.sound none c.in_ok-push-in-None.ensures

pub returns-in_ok-push-in-None-clause-listed : goal.returns-in_ok-push-in-None-clause-listed
returns-in_ok-push-in-None-clause-listed c = text_lists c.args.delimiters.now c.args.nodes.now.items c.push.new.nodes.items c.requires.listed c.in_ok-push-in-None.ensures
