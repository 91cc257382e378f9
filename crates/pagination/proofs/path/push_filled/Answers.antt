use Rattle.std.proofs.Common.{lit<, append_assoc, rules}
use Rattle.std.specs.Prelude.{None, Some}
use Rattle.std.proofs.lemmas.Str.Pattern.{split_once_first}
use Rattle.pagination.proofs.Parts.{without_colon, at_colon}
use Rattle.pagination.proofs.path.push_filled.Goals as goal

pub returns-in-None : goal.returns-in-None
returns-in-None c =
    let whole = without_colon c.args.digits.now c.args.pattern.now (split_once_first 58 c.args.pattern.now None c.in-None.ensures.cases (lit< tt)) in
    rw whole (search rules)

pub returns-in_ok-push_str-in-Some : goal.returns-in_ok-push_str-in-Some
returns-in_ok-push_str-in-Some c =
    let cut = split_once_first 58 c.args.pattern.now (Some (c.in-Some.start, c.in-Some.rest)) c.in-Some.ensures.cases (lit< tt) in
    let parts = at_colon c.args.digits.now c.args.pattern.now cut.0 in
    rw (parts, ← cut.1, ← cut.2, ← append_assoc, ← c.in_ok-push_str-in-Some.ensures.bytes) c.push_parts.ensures
