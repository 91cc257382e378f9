use Rattle.std.proofs.lemmas.Result.{err_from_is_err_and}
use Rattle.site_base.specs.Values.{value_text}
use Rattle.site_base.specs.View.{plain}
use Rattle.filter_base.proofs.WritingLaws.{refuses_more, writes_then}
use Rattle.filter_base.proofs.lists.push_behind.Goals as goal

pub returns-in_err-push : goal.returns-in_err-push
returns-in_err-push c =
    let e = err_from_is_err_and c.from_residual.result c.from_residual.ensures.1 in
    rw (e.1, e.2) (refuses_more c.args.writer.now c.args.between.now (value_text (plain c.args.value.now)) c.in_err-push.field-0.0 c.in_err-push.ensures)

pub returns : goal.returns
returns c = writes_then c.args.writer.now c.push.new.self c.push_value.new.self c.args.between.now (value_text (plain c.args.value.now)) c.push_value.result c.in_ok-push.ensures c.push_value.ensures
