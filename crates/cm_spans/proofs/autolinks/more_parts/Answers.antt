use Rattle.std.proofs.Common.{arith, codes, drop, length, take, ◌-◌}
use Rattle.std.proofs.lemmas.List.{length-drop}
use Rattle.markdown_grammar.specs.Autolinks.{host_part}
use Rattle.markdown_grammar.specs.Readers.{exactly, ◌then◌}
use Rattle.cm_starts.proofs.Repeats.{one_more, rest_is}
use Rattle.cm_spans.proofs.ClosedBy.{point_goes}
use Rattle.cm_spans.proofs.autolinks.more_parts.Goals as goal

pub loop-at-preserved : goal.loop-at-preserved
loop-at-preserved c =
    let text = c.args.text.now in
    let at = c.loop-at.at in
    record {
      within = omega (arith, c.in-Some.ensures.within, length-drop at text, c.loop-at.invariant.within);
      so_far = one_more (exactly (codes ".") then host_part) point_goes text (take (length text - at) (drop at text)) at c.in-Some.n _ (rest_is at text) c.in-Some.ensures.value c.loop-at.invariant.so_far;
    }
