use Rattle.std.proofs.Common.{◌∙◌, ◌++◌, List, ℕ, ap, sym, rules, arith}
use Rattle.site_base.specs.Plain.{onto}
use Rattle.text_filters.specs.Parts.{parts}
use Rattle.text_filters.specs.Splitting.{empties, text_items, without_empty_end}
use Rattle.text_filters.proofs.PartLaws.{cut_shorter, parts_lack, parts_more}
use Rattle.text_filters.proofs.splitting.between.Goals as goal

pub loop-part-preserved : goal.loop-part-preserved
loop-part-preserved c =
    let mark = c.args.mark.now in let rest = c.loop-part.rest.now in let part = c.in-Some.part.now in let behind = c.in-Some.behind.now in
    record {
      utf8 = search rules;
      few = omega (arith, cut_shorter mark rest part behind c.in-Some.ensures.cases c.requires, c.in_ok-waiting.ensures.few, c.loop-part.invariant.few);
      so_far = c.in_ok-waiting.ensures.parts (parts mark behind)
          ∙ ap (λ (ps : List (List ℕ)). onto c.loop-part.list (text_items (without_empty_end (empties c.loop-part.waiting ++ ps)))) (sym (parts_more mark rest part behind c.in-Some.ensures.cases c.requires))
          ∙ c.loop-part.invariant.so_far;
    }

pub returns : goal.returns
returns c =
    let mark = c.args.mark.now in let rest = c.loop-part.rest.now in
    c.in_ok-push_last.ensures
    ∙ ap (λ (ps : List (List ℕ)). onto c.loop-part.list (text_items (without_empty_end (empties c.loop-part.waiting ++ ps)))) (sym (parts_lack mark rest c.in_default.ensures.cases))
    ∙ c.loop-part.invariant.so_far
