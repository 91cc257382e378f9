use Rattle.std.proofs.Common.{◌≡◌, ◌∙◌, ◌+◌, ◌∷◌, [], Some, None, ap, arith, length, lit<, refl, rules, sym}
use Rattle.std.proofs.lemmas.List.{length-append}
use Rattle.std.proofs.lemmas.Str.Pattern.{strip_suffix_char}
use Rattle.site_session.proofs.BaseLaws.{before_none, before_one}
use Rattle.site_session.proofs.base.before_slashes.Goals as goal

pub loop-before-smaller : goal.loop-before-smaller
loop-before-smaller c =
    let is = strip_suffix_char 47 c.loop-before.rest.now (Some c.in-Some.before) c.in-Some.ensures.cases (lit< tt) in
    omega (arith, ap length is, length-append c.in-Some.before.now (47 ∷ []))

pub loop-before-preserved : goal.loop-before-preserved
loop-before-preserved c =
    let is = strip_suffix_char 47 c.loop-before.rest.now (Some c.in-Some.before) c.in-Some.ensures.cases (lit< tt) in
    (search rules, sym (before_one c.loop-before.rest.now c.in-Some.before.now is) ∙ c.loop-before.invariant.1)

pub returns : goal.returns
returns c =
    sym (before_none c.loop-before.rest.now (strip_suffix_char 47 c.loop-before.rest.now None c.in_default.ensures.cases (lit< tt))) ∙ c.loop-before.invariant.1
