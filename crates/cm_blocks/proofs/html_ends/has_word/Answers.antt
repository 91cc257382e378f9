use Rattle.std.proofs.Common.{List, ap, ℕ, ◌∙◌}
use Rattle.site_text.specs.Fronts.{begins_with}
use Rattle.cm_blocks.specs.HtmlEnds.{seen}
use Rattle.cm_blocks.proofs.HtmlWords.{not_here}
use Rattle.cm_blocks.proofs.LeafTaking.{whole_rest}
use Rattle.cm_blocks.proofs.html_ends.has_word.Goals as goal

pub loop-at-preserved : goal.loop-at-preserved
loop-at-preserved c =
    not_here c.args.folds c.args.word.now c.args.text.now c.loop-at.at _ c.is_here.result c.loop-at-test.true
    (c.is_here.ensures ∙ ap (λ (t : List ℕ). begins_with c.args.word.now (seen c.args.folds t)) (whole_rest c.loop-at.at c.args.text.now)) c.if-is_here.false c.loop-at.invariant
