use Rattle.std.proofs.Common.{◌≡◌, ◌∙◌, ◌+◌, ◌++◌, ◌∷◌, List, ℕ, None, Some, ap, sym, subst, append_assoc, lit<, rules}
use Rattle.std.specs.String.{string_bytes}
use Rattle.std.specs.List.{position_or_len}
use Rattle.std.proofs.lemmas.Str.Pattern.{split_once_first}
use Rattle.text_filters.specs.MissingEnds.{LackEnds}
use Rattle.text_filters.specs.Stretches.{without}
use Rattle.text_filters.proofs.StretchLaws.{lack_drop, no_opening, opening, opens}
use Rattle.text_filters.proofs.stretches.without.Goals as goal

pub push_next-requires : goal.push_next-requires
push_next-requires c =
    let rest = c.loop-before.rest.now in
    let cut = split_once_first 60 rest (Some (c.in-Some.before, c.in-Some.behind)) c.in-Some.ensures.cases (lit< tt) in
    subst (LackEnds c.loop-before.missing.items) (sym cut.2) (lack_drop c.loop-before.missing.items rest (position_or_len opens rest + 1) c.loop-before.invariant.missing)

pub loop-before-preserved : goal.loop-before-preserved
loop-before-preserved c =
    let kinds = c.args.kinds.now in let rest = c.loop-before.rest.now in let made = string_bytes c.loop-before.made in
    let before = c.in-Some.before.now in let behind = c.in-Some.behind.now in
    let cut = split_once_first 60 rest (Some (c.in-Some.before, c.in-Some.behind)) c.in-Some.ensures.cases (lit< tt) in
    let parts : without kinds rest ≡ before ++ without kinds (60 ∷ behind) =
    opening kinds rest cut.0 ∙ (λ i. sym cut.1 i ++ without kinds (60 ∷ sym cut.2 i)) in
    record {
      utf8 = search rules;
      missing = c.in_ok-rest.ensures.missing;
      so_far = c.in_ok-rest.ensures.made
          ∙ ap (λ (t : List ℕ). t ++ without kinds (60 ∷ behind)) c.in_ok-push_str.ensures.bytes
          ∙ append_assoc made before (without kinds (60 ∷ behind))
          ∙ ap (λ (t : List ℕ). made ++ t) (sym parts)
          ∙ c.loop-before.invariant.so_far;
    }

pub returns : goal.returns
returns c =
    let kinds = c.args.kinds.now in let rest = c.loop-before.rest.now in let made = string_bytes c.loop-before.made in
    let whole = no_opening kinds rest (split_once_first 60 rest None c.in_default.ensures.cases (lit< tt)) in
    c.in_ok-push_str-2.ensures.bytes ∙ ap (λ (t : List ℕ). made ++ t) (sym whole) ∙ c.loop-before.invariant.so_far
