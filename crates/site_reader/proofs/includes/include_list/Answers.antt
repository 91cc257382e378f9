use Rattle.std.proofs.Common.{◌∙◌, arith, sym, rules}
use Rattle.std.proofs.lemmas.Result.{err_from_is_err_and}
use Rattle.site_reader.specs.Sites.{add_include}
use Rattle.site_reader.specs.Placing.{seen}
use Rattle.site_reader.proofs.EachLaws.{each_done, each_first, each_next}
use Rattle.site_reader.proofs.includes.include_list.Goals as goal

pub returns-in_err-add_include : goal.returns-in_err-add_include
returns-in_err-add_include c =
    let e = err_from_is_err_and c.from_residual.result c.from_residual.ensures.1 in
    rw (e.1, e.2) (each_first add_include seen c.args.files.now c.loop-file.file-index c.file-item.result c.loop-file.includes.items _ _ (search rules) c.file-item.is c.in_err-add_include.ensures c.loop-file.invariant)

pub loop-file-preserved : goal.loop-file-preserved
loop-file-preserved c =
    sym (each_next add_include seen c.args.files.now c.loop-file.file-index c.file-item.result c.loop-file.includes.items _ (search rules) c.file-item.is c.in_ok-add_include.ensures) ∙ c.loop-file.invariant

pub returns : goal.returns
returns c = each_done add_include seen c.args.files.now c.loop-file.file-index c.loop-file.includes.items _ (omega (arith, c.loop-file-test.false)) c.loop-file.invariant
