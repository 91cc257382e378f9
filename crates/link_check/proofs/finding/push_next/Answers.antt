use Rattle.std.proofs.Common.{◌≡◌, ◌∙◌, ◌++◌, Bool, List, Some, ℕ, ap, append_assoc, codes, cond, drop, false, rules, sym}
use Rattle.site_text.specs.Fronts.{begins_with}
use Rattle.link_check.specs.Links.{after_comment, after_tag, found}
use Rattle.link_check.specs.Reads.{count_of, values_in}
use Rattle.link_check.specs.Tags.{open_tag}
use Rattle.link_check.proofs.LinkLaws.{tag_found}
use Rattle.link_check.proofs.finding.push_next.Goals as goal

pub returns-in-Some-2-clause-list : goal.returns-in-Some-2-clause-list
returns-in-Some-2-clause-list c =
    let t = c.args.text.now in
    let none : begins_with (codes "!--") t ≡ false = search rules in
    let old = c.args.list.now in
    let rest = c.range_from.result.now in
    let values = values_in (open_tag t) in
    let count : Some c.in-Some-2.count ≡ count_of (open_tag t) = sym c.in-Some-2.is ∙ c.in_ok-count.ensures.count in
    ap (λ (vs : List (List ℕ)). vs ++ found rest) c.in_ok-count.ensures.list
    ∙ append_assoc old values (found rest)
    ∙ ap (λ (u : List ℕ). old ++ (values ++ found u)) c.range_from.ensures.value
    ∙ ap (λ (vs : List (List ℕ)). old ++ vs) (tag_found t (open_tag t) c.in-Some-2.count count)
    ∙ ap (λ (b : Bool). old ++ cond b (after_comment found (drop 3 t)) (after_tag found t (open_tag t))) (sym none)
