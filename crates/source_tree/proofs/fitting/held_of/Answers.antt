use Rattle.std.proofs.Common.{◌∙◌, inr, sym}
use Rattle.site_base.specs.PathMap.{as_map}
use Rattle.source_tree.proofs.Fitted.{clashed, fitted, none_of}
use Rattle.source_tree.proofs.fitting.held_of.Goals as goal

pub returns-then-is_some : goal.returns-then-is_some
returns-then-is_some c =
    inr (clashed c.args.files.items c.deref.result.now c.count_fitting-fitting.result.number (as_map c.in_ok-files.files) c.find_clash.result
    c.deref.ensures.value c.requires c.count_fitting-fitting.ensures.number c.in_ok-files.ensures c.find_clash.ensures.first (sym c.is_some.ensures ∙ c.if-is_some.true))

pub of-requires-clause-total : goal.of-requires-clause-total
of-requires-clause-total c =
    let count = c.count_fitting-fitting.ensures in
    let free = c.find_clash.ensures.clash_free (none_of c.find_clash.result (sym c.is_some.ensures ∙ c.if-is_some.false)) in
    ((fitted c.args.files.items c.deref.result.now _ _ _ (as_map c.in_ok-files.files) c.deref.ensures.value c.requires count.number count.total count.limit c.in_ok-files.ensures free).held c.in-None.is).1.0

pub of-requires-clause-files : goal.of-requires-clause-files
of-requires-clause-files c =
    let count = c.count_fitting-fitting.ensures in
    let free = c.find_clash.ensures.clash_free (none_of c.find_clash.result (sym c.is_some.ensures ∙ c.if-is_some.false)) in
    ((fitted c.args.files.items c.deref.result.now _ _ _ (as_map c.in_ok-files.files) c.deref.ensures.value c.requires count.number count.total count.limit c.in_ok-files.ensures free).held c.in-None.is).1.1

pub returns-in-Some : goal.returns-in-Some
returns-in-Some c =
    let count = c.count_fitting-fitting.ensures in
    let free = c.find_clash.ensures.clash_free (none_of c.find_clash.result (sym c.is_some.ensures ∙ c.if-is_some.false)) in
    inr ((fitted c.args.files.items c.deref.result.now _ _ _ (as_map c.in_ok-files.files) c.deref.ensures.value c.requires count.number count.total count.limit c.in_ok-files.ensures free).refused ∙ c.in-Some.is)

pub returns-in-None : goal.returns-in-None
returns-in-None c =
    let count = c.count_fitting-fitting.ensures in
    let free = c.find_clash.ensures.clash_free (none_of c.find_clash.result (sym c.is_some.ensures ∙ c.if-is_some.false)) in
    let all = fitted c.args.files.items c.deref.result.now _ _ _ (as_map c.in_ok-files.files) c.deref.ensures.value c.requires count.number count.total count.limit c.in_ok-files.ensures free in
    (c.of.ensures ∙ (all.held c.in-None.is).0, all.refused ∙ c.in-None.is)
