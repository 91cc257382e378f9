use Rattle.std.proofs.Common.{◌∙◌, arith, sym, rules}
use Rattle.std.proofs.lemmas.Result.{err_from_is_err_and}
use Rattle.site_reader.specs.Sites.{add_layout}
use Rattle.site_reader.specs.Placing.{seen}
use Rattle.site_reader.proofs.EachLaws.{each_done, each_first, each_next}
use Rattle.site_reader.proofs.layouts.named_layouts.Goals as goal

pub returns-in_err-add_layout : goal.returns-in_err-add_layout
returns-in_err-add_layout c =
    let e = err_from_is_err_and c.from_residual.result c.from_residual.ensures.1 in
    rw (e.1, e.2) (each_first add_layout seen c.args.files.now c.loop-file.file-index c.file-item.result c.loop-file.layouts.entries _ _ (search rules) c.file-item.is c.in_err-add_layout.ensures c.loop-file.invariant)

pub loop-file-preserved : goal.loop-file-preserved
loop-file-preserved c =
    sym (each_next add_layout seen c.args.files.now c.loop-file.file-index c.file-item.result c.loop-file.layouts.entries _ (search rules) c.file-item.is c.in_ok-add_layout.ensures) ∙ c.loop-file.invariant

pub returns : goal.returns
returns c = each_done add_layout seen c.args.files.now c.loop-file.file-index c.loop-file.layouts.entries _ (omega (arith, c.loop-file-test.false)) c.loop-file.invariant
