use Rattle.std.proofs.Common.{sym}
use Rattle.cm_links.proofs.ResolvingLaws.{boundary_first, resolves_some, resolves_none}
use Rattle.cm_links.proofs.resolving.push_front.Goals as goal

pub range-requires-clause-end_boundary : goal.range-requires-clause-end_boundary
range-requires-clause-end_boundary c = boundary_first _ _ c.utf8.text c.requires c.min-n.ensures

pub returns-in_ok-push-in-Some : goal.returns-in_ok-push-in-Some
returns-in_ok-push-in-Some c =
    resolves_some _ _ c.args.text.now (c.in-Some.c, c.in-Some.size) c.utf8.text (rw c.as_bytes.ensures.value at (sym c.in-Some.ensures.value)) (rw c.as_bytes.ensures.value at c.in-Some.ensures.ends) c.in_ok-push-in-Some.ensures.bytes

pub returns-in_ok-push_str-in-None : goal.returns-in_ok-push_str-in-None
returns-in_ok-push_str-in-None c =
    resolves_none _ _ c.args.text.now c.min-n.result c.utf8.text c.requires (rw c.as_bytes.ensures.value at (sym c.in-None.ensures.value)) c.min-n.ensures (rw c.range.ensures.value at c.in_ok-push_str-in-None.ensures.bytes)
