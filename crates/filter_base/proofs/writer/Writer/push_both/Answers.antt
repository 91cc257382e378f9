use Rattle.std.proofs.lemmas.Result.{err_from_is_err_and}
use Rattle.filter_base.proofs.WritingLaws.{refuses_more, writes_then}
use Rattle.filter_base.proofs.writer.Writer.push_both.Goals as goal

pub returns-in_err-push : goal.returns-in_err-push
returns-in_err-push c =
    let e = err_from_is_err_and c.from_residual.result c.from_residual.ensures.1 in
    rw (e.1, e.2) (refuses_more c.args.self.now c.args.first.now c.args.second.now c.in_err-push.field-0.0 c.in_err-push.ensures)

pub returns : goal.returns
returns c = writes_then c.args.self.now c.push.new.self c.push-2.new.self c.args.first.now c.args.second.now c.push-2.result c.in_ok-push.ensures c.push-2.ensures
