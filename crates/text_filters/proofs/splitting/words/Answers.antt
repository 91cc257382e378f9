use Rattle.std.proofs.Common.{◌∙◌, ap, sym, rules}
use Rattle.site_base.specs.Plain.{Items, onto}
use Rattle.text_filters.specs.Splitting.{text_items}
use Rattle.text_filters.specs.Words.{words}
use Rattle.text_filters.proofs.SplitLaws.{piece_more, pieces_end}
use Rattle.text_filters.proofs.splitting.words.Goals as goal

pub loop-word-preserved : goal.loop-word-preserved
loop-word-preserved c =
    let left = words c.in-Some.behind.now in
    record {
      utf8 = search rules;
      so_far = ap (λ (is : Items). onto is (text_items left)) c.in_ok-push_text.ensures
          ∙ piece_more c.loop-word.list c.in-Some.word.now left (words c.loop-word.rest.now) c.in-Some.ensures.words
          ∙ c.loop-word.invariant.so_far;
    }

pub returns : goal.returns
returns c = sym (pieces_end c.loop-word.list (words c.loop-word.rest.now) c.in_default.ensures.words) ∙ c.loop-word.invariant.so_far
