use Rattle.std.proofs.Common.{◌≡◌, ◌∙◌, ◌+◌, ◌++◌, Bor, List, Some, ℕ, ap, append-nil, append_assoc, arith, drop, length-drop, map, option_map, refl, subst, sym}
use Rattle.std.specs.Str.{IsCharBoundary}
use Rattle.std.proofs.lemmas.List.{drop-drop}
use Rattle.std.proofs.lemmas.Str.{IsCharBoundary-from_rest}
use Rattle.link_check.specs.Links.{value_of, values_of}
use Rattle.link_check.specs.Reads.{attribute_of}
use Rattle.link_check.specs.Tags as grammar
use Rattle.link_check.specs.Tags.{Attribute, Read, attribute_read}
use Rattle.link_check.proofs.Cuts.{start_cut}
use Rattle.link_check.proofs.LinkLaws.{attribute_takes, no_more, one_more}
use Rattle.link_check.proofs.finding.attributes.Goals as goal

abbrev shown : List (Bor (List ℕ)) → List (List ℕ)
shown values = map (λ (v : Bor (List ℕ)). v.now) values

pub loop-attribute-init : goal.loop-attribute-init
loop-attribute-init c = record { cut = start_cut c.args.text.now c.utf8.text; counted = omega arith; values = refl }

pub loop-attribute-smaller : goal.loop-attribute-smaller
loop-attribute-smaller c =
    let text = c.args.text.now in let count = c.loop-attribute.count in let a = c.in-Some.attribute in
    let one = attribute_read a.name.now (option_map (λ (v : Bor (List ℕ)). v.now) a.value) a.count in
    let takes = attribute_takes (drop count text) one (ap grammar.attribute (sym c.range_from.ensures.value) ∙ c.in-Some.ensures.value) in
    omega (arith, takes.0, takes.1, length-drop count text, c.loop-attribute.invariant.cut.0)

pub loop-attribute-preserved : goal.loop-attribute-preserved
loop-attribute-preserved c =
    let text = c.args.text.now in let count = c.loop-attribute.count in let a = c.in-Some.attribute in
    let one = attribute_read a.name.now (option_map (λ (v : Bor (List ℕ)). v.now) a.value) a.count in
    let rest = drop count text in
    let found : grammar.attribute rest ≡ Some one = ap grammar.attribute (sym c.range_from.ensures.value) ∙ c.in-Some.ensures.value in
    let more : grammar.attributes rest ≡ grammar.joined one (grammar.attributes (drop a.count rest)) = one_more rest one found in
    let left : drop a.count rest ≡ drop (count + a.count) text = drop-drop a.count count text in
    let old = shown c.loop-attribute.values.items in
    let others = values_of (grammar.attributes (drop (count + a.count) text)).value in
    let value = value_of (attribute_of a.name.now (option_map (λ (v : Bor (List ℕ)). v.now) a.value)) in
    record {
      cut = IsCharBoundary-from_rest text count a.count c.loop-attribute.invariant.cut.0 (subst (λ (t : List ℕ). IsCharBoundary t a.count) c.range_from.ensures.value c.in-Some.ensures.cut);
      counted = omega (arith, ap (λ (r : Read (List Attribute)). r.count) more, ap (λ (t : List ℕ). (grammar.attributes t).count) left, c.loop-attribute.invariant.counted);
      values = ap (λ (vs : List (List ℕ)). vs ++ others) c.in_ok-push_value.ensures
          ∙ append_assoc old value others
          ∙ ap (λ (t : List ℕ). old ++ (value ++ values_of (grammar.attributes t).value)) (sym left)
          ∙ ap (λ (r : Read (List Attribute)). old ++ values_of r.value) (sym more)
          ∙ c.loop-attribute.invariant.values;
    }

pub returns-clause-count : goal.returns-clause-count
returns-clause-count c =
    let rest = drop c.loop-attribute.count c.args.text.now in
    let none = no_more rest (ap grammar.attribute (sym c.range_from.ensures.value) ∙ c.in_default.ensures.value) in
    omega (arith, ap (λ (r : Read (List Attribute)). r.count) none, c.loop-attribute.invariant.counted)

pub returns-clause-values : goal.returns-clause-values
returns-clause-values c =
    let rest = drop c.loop-attribute.count c.args.text.now in
    let none = no_more rest (ap grammar.attribute (sym c.range_from.ensures.value) ∙ c.in_default.ensures.value) in
    let old = shown c.loop-attribute.values.items in
    sym (append-nil old) ∙ ap (λ (r : Read (List Attribute)). old ++ values_of r.value) (sym none) ∙ c.loop-attribute.invariant.values
