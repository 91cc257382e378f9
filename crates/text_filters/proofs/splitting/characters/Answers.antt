use Rattle.std.proofs.Common.{List, ℕ, ◌∙◌, ap, map, sym, rules}
use Rattle.std.specs.Char.{encode_utf8}
use Rattle.site_base.specs.Plain.{Items, item, no_items, onto, text}
use Rattle.text_filters.specs.Splitting.{characters, text_items}
use Rattle.text_filters.proofs.SplitLaws.{piece_more, pieces_end}
use Rattle.text_filters.proofs.splitting.characters.Goals as goal

pub loop-first-preserved : goal.loop-first-preserved
loop-first-preserved c =
    let left = characters c.in-Some.behind.now in
    let made = c.loop-first.list in
    record {
      utf8 = search rules;
      so_far = ap (λ (is : Items). onto is (text_items left)) (c.in_ok-push.ensures.ok ∙ ap (λ (t : List ℕ). onto made (item (text t) no_items)) c.in_ok-char_text.ensures)
          ∙ piece_more made (encode_utf8 c.in-Some.first) left (characters c.loop-first.rest.now) (ap (map encode_utf8) c.in-Some.ensures.characters)
          ∙ c.loop-first.invariant.so_far;
    }

pub returns : goal.returns
returns c = sym (pieces_end c.loop-first.list (characters c.loop-first.rest.now) (ap (map encode_utf8) c.in_default.ensures.characters)) ∙ c.loop-first.invariant.so_far
