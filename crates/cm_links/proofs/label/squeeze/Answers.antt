use Rattle.std.proofs.Common.{sym, ◌∙◌}
use Rattle.std.proofs.lemmas.Str.{IsUtf8-had, IsUtf8-past_char}
use Rattle.cm_links.proofs.Squeezing.{white_step, other_step, all_squeezed}
use Rattle.cm_links.proofs.label.squeeze.Goals as goal

pub loop-c-preserved-then-is_white : goal.loop-c-preserved-then-is_white
loop-c-preserved-then-is_white c =
    let held = c.loop-c.invariant in
    let parts = c.in-Some.ensures.steps.0 in
    record {
      readable = IsUtf8-past_char _ _ c.in-Some.c held.readable parts;
      so_far = white_step _ _ _ _ _ _ c.in-Some.c held.readable parts (sym c.is_white.ensures ∙ c.if-is_white.true) held.so_far;
    }

pub loop-c-preserved : goal.loop-c-preserved
loop-c-preserved c =
    let held = c.loop-c.invariant in
    let parts = c.in-Some.ensures.steps.0 in
    record {
      readable = IsUtf8-past_char _ _ c.in-Some.c held.readable parts;
      so_far = other_step _ _ _ _ _ _ _ c.in-Some.c held.readable parts (sym c.is_white.ensures ∙ c.if-is_white.false) c.in_ok-push_behind.ensures held.so_far;
    }

pub returns : goal.returns
returns c = all_squeezed _ _ _ _ _ (IsUtf8-had _ c.loop-c.out.ok) c.in-None.ensures.steps.0.0 c.loop-c.invariant.so_far
