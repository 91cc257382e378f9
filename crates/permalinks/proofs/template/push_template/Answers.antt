use Rattle.std.proofs.Common.{ap, sym, lit<}
use Rattle.std.specs.Prelude.{None, Some}
use Rattle.std.specs.String.{string_bytes}
use Rattle.std.proofs.lemmas.Str.Pattern.{split_once_first}
use Rattle.permalinks.proofs.Templates.{without_colon, at_colon, start_and_parts}
use Rattle.permalinks.proofs.template.push_template.Goals as goal

pub returns-in_ok-push_str-in-None : goal.returns-in_ok-push_str-in-None
returns-in_ok-push_str-in-None g c =
    let whole = without_colon (g.V.Values.stands_for c.args.values.now) c.args.template.now (split_once_first 58 c.args.template.now None c.in-None.ensures.cases (lit< tt)) in
    rw whole (ap Some (sym c.in_ok-push_str-in-None.ensures.bytes))

pub returns-in_ok-push_str-in-Some : goal.returns-in_ok-push_str-in-Some
returns-in_ok-push_str-in-Some g c =
    let cut = split_once_first 58 c.args.template.now (Some (c.in-Some.start, c.in-Some.rest)) c.in-Some.ensures.cases (lit< tt) in
    let parts = at_colon (g.V.Values.stands_for c.args.values.now) c.args.template.now cut.0 in
    rw (parts, ← cut.1, ← cut.2) (start_and_parts c.push_parts.result (string_bytes c.args.text.now) c.in-Some.start.now (string_bytes c.push_str-in-Some.new.self) (string_bytes c.push_parts.new.text) _ c.in_ok-push_str-in-Some.ensures.bytes c.push_parts.ensures)
