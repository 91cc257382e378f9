use Rattle.std.proofs.Common.{◌+◌, ◌∙◌, ◌++◌, ap, sym, length, drop}
use Rattle.std.proofs.lemmas.Result.{err_from_is_err_and}
use Rattle.site_base.specs.Values.{value_text}
use Rattle.site_base.specs.View.{plain, items_of}
use Rattle.site_base.proofs.ValueLaws.{count_length}
use Rattle.filter_base.proofs.WritingLaws.{refused}
use Rattle.jekyll_filters.specs.Lists.{words_before, sentence_from}
use Rattle.jekyll_filters.proofs.SentenceLaws.{next_element}
use Rattle.jekyll_filters.proofs.lists.sentence.Goals as goal

pub loop-place-init : goal.loop-place-init
loop-place-init c =
    let vs = c.args.values.now in
    rw c.new-writer.ensures (ap (λ n. sentence_from c.args.connector.now 0 n (items_of vs)) (sym (count_length vs)))

pub returns-in_err-push_words_before : goal.returns-in_err-push_words_before
returns-in_err-push_words_before c =
    let e = err_from_is_err_and c.from_residual.result c.from_residual.ensures.1 in
    let vs = c.args.values.now in let i = c.loop-place.place in let v = c.index-values-place.result in
    let connector = c.args.connector.now in let n = length vs in
    rw (e.1, e.2) (refused _ c.loop-place.writer (words_before connector i n) (value_text (plain v) ++ sentence_from connector (i + 1) n (items_of (drop (i + 1) vs))) _
    (next_element c.loop-place.writer connector n vs i v c.loop-place-test.true c.index-values-place.is ∙ c.loop-place.invariant) c.in_err-push_words_before.ensures)
