use Rattle.std.proofs.lemmas.Str.{IsUtf8-past_char}
use Rattle.site_sentences.proofs.ShownLaws.{shown-end, shown-more}
use Rattle.site_sentences.proofs.showing.push_shown.Goals as goal

pub loop-character-preserved : goal.loop-character-preserved
loop-character-preserved c =
    let held = c.loop-character.invariant in
    record {
      readable = IsUtf8-past_char _ _ c.in-Some.character held.readable c.in-Some.ensures.steps.0;
      so_far = shown-more _ _ _ _ _ _ _ held.readable c.in_ok-push.ensures.bytes c.shown_char.ensures c.in-Some.ensures.steps.0 held.so_far;
    }

pub returns : goal.returns
returns c = shown-end _ _ _ c.in-None.ensures.steps.0.0 c.loop-character.invariant.so_far
