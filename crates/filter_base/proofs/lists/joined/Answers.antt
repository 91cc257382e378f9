use Rattle.std.proofs.Common.{◌++◌, ◌+◌, ◌∙◌, drop}
use Rattle.std.proofs.lemmas.Result.{err_from_is_err_and}
use Rattle.site_base.specs.Values.{value_text}
use Rattle.site_base.specs.View.{plain, items_of}
use Rattle.filter_base.specs.Lists.{texts_behind}
use Rattle.filter_base.proofs.ItemLaws.{next_text}
use Rattle.filter_base.proofs.WritingLaws.{refused}
use Rattle.filter_base.proofs.lists.joined.Goals as goal

pub returns-in_err-push_behind : goal.returns-in_err-push_behind
returns-in_err-push_behind c =
    let e = err_from_is_err_and c.from_residual.result c.from_residual.ensures.1 in
    let vs = c.args.values.now in let i = c.loop-value.value-index in let v = c.value-item.result in
    let before = c.loop-value.before.now in let between = c.args.between.now in
    rw (e.1, e.2) (refused _ c.loop-value.writer (before ++ value_text (plain v)) (texts_behind between between (items_of (drop (i + 1) vs))) _
    (next_text c.loop-value.writer before between vs i v c.loop-value-test.true c.value-item.is ∙ c.loop-value.invariant.so_far) c.in_err-push_behind.ensures)
