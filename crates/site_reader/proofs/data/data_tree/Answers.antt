use Rattle.std.proofs.Common.{◌∙◌, arith, sym, rules}
use Rattle.std.proofs.lemmas.Result.{err_from_is_err_and}
use Rattle.site_reader.specs.Data.{add_data}
use Rattle.site_reader.specs.Placing.{seen}
use Rattle.site_reader.proofs.EachLaws.{each_done, each_first, each_next}
use Rattle.site_reader.proofs.data.data_tree.Goals as goal

pub returns-in_err-add_data : goal.returns-in_err-add_data
returns-in_err-add_data c =
    let e = err_from_is_err_and c.from_residual.result c.from_residual.ensures.1 in
    rw (e.1, e.2) (each_first add_data seen c.args.files.now c.loop-file.file-index c.file-item.result c.loop-file.tree _ _ (search rules) c.file-item.is c.in_err-add_data.ensures c.loop-file.invariant)

pub loop-file-preserved : goal.loop-file-preserved
loop-file-preserved c =
    sym (each_next add_data seen c.args.files.now c.loop-file.file-index c.file-item.result c.loop-file.tree _ (search rules) c.file-item.is c.in_ok-add_data.ensures) ∙ c.loop-file.invariant

pub returns : goal.returns
returns c = each_done add_data seen c.args.files.now c.loop-file.file-index c.loop-file.tree _ (omega (arith, c.loop-file-test.false)) c.loop-file.invariant
