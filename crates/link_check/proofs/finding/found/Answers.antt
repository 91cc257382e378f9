use Rattle.std.proofs.Common.{◌∙◌, ◌++◌, List, None, Some, ℕ, ap, lit<, rules, sym, append-nil}
use Rattle.std.proofs.lemmas.Str.Pattern.{split_once_first}
use Rattle.link_check.specs.Links.{after_less_than, found}
use Rattle.link_check.proofs.LinkLaws.{no_opening, opening}
use Rattle.link_check.proofs.finding.found.Goals as goal

pub loop-behind-preserved : goal.loop-behind-preserved
loop-behind-preserved c =
    let rest = c.loop-behind.rest.now in
    let behind = c.in-Some.behind.now in
    let cut = split_once_first 60 rest (Some (c.in-Some.field-0-0, c.in-Some.behind)) c.in-Some.ensures.cases (lit< tt) in
    record {
      utf8 = search rules;
      so_far = c.in_ok-rest.ensures.list
          ∙ ap (λ (t : List ℕ). c.loop-behind.list ++ after_less_than found t) cut.2
          ∙ ap (λ (vs : List (List ℕ)). c.loop-behind.list ++ vs) (sym (opening rest cut.0))
          ∙ c.loop-behind.invariant.so_far;
    }

pub returns : goal.returns
returns c =
    let rest = c.loop-behind.rest.now in
    let nothing = no_opening rest (split_once_first 60 rest None c.in_default.ensures.cases (lit< tt)) in
    sym (append-nil c.loop-behind.list) ∙ ap (λ (vs : List (List ℕ)). c.loop-behind.list ++ vs) (sym nothing) ∙ c.loop-behind.invariant.so_far
