use Rattle.std.proofs.Common.{◌∙◌, arith, subst, sym, rules}
use Rattle.std.proofs.lemmas.Result.{err_from_is_err_and}
use Rattle.site_reader.specs.Ruled.{IsRuled, ruled_item}
use Rattle.site_reader.specs.Ranks.{in_order}
use Rattle.site_reader.specs.Placing.{seen}
use Rattle.site_reader.proofs.EachLaws.{each_done, each_first, each_next}
use Rattle.site_reader.proofs.items.read_items.Goals as goal

pub add_item-requires-clause-known : goal.add_item-requires-clause-known
add_item-requires-clause-known c =
    subst (IsRuled c.args.rules.now) (sym c.file-item.is) (c.requires.known c.loop-file.file-index c.file-item.result (search rules))

pub returns-in_err-add_item : goal.returns-in_err-add_item
returns-in_err-add_item c =
    let e = err_from_is_err_and c.from_residual-in_err-add_item.result c.from_residual-in_err-add_item.ensures.1 in
    rw (e.1, e.2) (each_first (ruled_item c.args.rules.now) seen c.args.files.now c.loop-file.file-index c.file-item.result (in_order c.loop-file.items.items) _ _ (search rules) c.file-item.is c.in_err-add_item.ensures c.loop-file.invariant)

pub loop-file-preserved : goal.loop-file-preserved
loop-file-preserved c =
    sym (each_next (ruled_item c.args.rules.now) seen c.args.files.now c.loop-file.file-index c.file-item.result (in_order c.loop-file.items.items) _ (search rules) c.file-item.is c.in_ok-add_item.ensures) ∙ c.loop-file.invariant

pub returns : goal.returns
returns c = each_done (ruled_item c.args.rules.now) seen c.args.files.now c.loop-file.file-index (in_order c.loop-file.items.items) _ (omega (arith, c.loop-file-test.false)) c.loop-file.invariant
