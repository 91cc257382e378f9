use Rattle.std.proofs.Common.{◌≡◌, ◌∙◌, ◌∷◌, Some, None, ap, arith, length, lit<, refl, rules, sym}
use Rattle.std.proofs.lemmas.Str.Pattern.{strip_prefix_char}
use Rattle.site_session.specs.Bases.{past_slashes}
use Rattle.site_session.proofs.BaseLaws.{past_none}
use Rattle.site_session.proofs.base.past_slashes.Goals as goal

pub loop-behind-smaller : goal.loop-behind-smaller
loop-behind-smaller c =
    let is = strip_prefix_char 47 c.loop-behind.rest.now (Some c.in-Some.behind) c.in-Some.ensures.cases (lit< tt) in
    omega (arith, ap length is)

pub loop-behind-preserved : goal.loop-behind-preserved
loop-behind-preserved c =
    let is = strip_prefix_char 47 c.loop-behind.rest.now (Some c.in-Some.behind) c.in-Some.ensures.cases (lit< tt) in
    (search rules, sym (ap past_slashes is) ∙ c.loop-behind.invariant.1)

pub returns : goal.returns
returns c =
    sym (past_none c.loop-behind.rest.now (strip_prefix_char 47 c.loop-behind.rest.now None c.in_default.ensures.cases (lit< tt))) ∙ c.loop-behind.invariant.1
