use Rattle.std.proofs.Common.{sym, ◌∙◌}
use Rattle.std.proofs.lemmas.Str.{IsUtf8-past_char}
use Rattle.cm_links.proofs.Measuring.{other_step, other_here, no_other}
use Rattle.cm_links.proofs.label.has_other.Goals as goal

pub loop-c-preserved : goal.loop-c-preserved
loop-c-preserved c =
    let held = c.loop-c.invariant in
    let parts = c.in-Some.ensures.steps.0 in
    record {
      readable = IsUtf8-past_char _ _ c.in-Some.c held.readable parts;
      so_far = other_step _ _ c.in-Some.c _ held.readable parts (sym c.is_white.ensures ∙ c.if-not-is_white.false) held.so_far;
    }

pub returns-then-not-is_white : goal.returns-then-not-is_white
returns-then-not-is_white c = other_here _ _ c.in-Some.c _ c.loop-c.invariant.readable c.in-Some.ensures.steps.0 (sym c.is_white.ensures ∙ c.if-not-is_white.true) c.loop-c.invariant.so_far

pub returns : goal.returns
returns c = no_other _ _ c.in-None.ensures.steps.0.0 c.loop-c.invariant.so_far
