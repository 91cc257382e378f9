use Rattle.std.proofs.Common.{◌≡◌, ◌∙◌, ◌+◌, ◌++◌, [], ◌∷◌, List, ap, subst, sym, take, ℕ}
use Rattle.std.proofs.lemmas.List.{take_more}
use Rattle.link_check.proofs.NumberLaws.{keeps_both, more_numbers}
use Rattle.link_check.specs.Numbers.{AreNumbers}
use Rattle.link_check.proofs.value_table.ValueTable.numbers_of.Goals as goal

pub loop-text-preserved : goal.loop-text-preserved
loop-text-preserved c =
    let old = c.loop-text.self in
    let new = c.number_of.new.self in
    let texts = c.args.texts.now in
    let i = c.loop-text.text-index in
    let text = c.text-item.result in
    let number = c.in_ok-number_of.field-0 in
    let more : take (i + 1) texts ≡ take i texts ++ text ∷ [] = take_more texts i text c.loop-text-test.true ∙ ap (λ (t : List ℕ). take i texts ++ t ∷ []) (sym c.text-item.is) in
    record {
      numbers = subst (λ (ns : List ℕ). AreNumbers new ns (take (i + 1) texts)) (sym c.in_ok-push.ensures.items) (more_numbers old new c.loop-text.numbers.items (take i texts) (take (i + 1) texts) number text c.number_of.ensures.kept c.loop-text.invariant.numbers c.in_ok-number_of.ensures.number more);
      kept = keeps_both c.args.self.now old new c.loop-text.invariant.kept c.number_of.ensures.kept;
    }
