use Rattle.std.proofs.Common.{arith, drop, subst}
use Rattle.std.proofs.lemmas.List.{drop-drop}
use Rattle.cm_spans.specs.Missing.{Lacks}
use Rattle.cm_spans.proofs.MissingLaws.{lacks_all_later}
use Rattle.cm_inlines.proofs.ListLaws.{no_lists}
use Rattle.cm_inlines.proofs.Muted.{muted_starts, muted_tokens, mutes}
use Rattle.cm_inlines.proofs.Whole.{goes_first, goes_more, laid_out, read, sound_more, starts}
use Rattle.cm_inlines.proofs.reading.read_inlines.Goals as goal

pub loop-at-init : goal.loop-at-init
loop-at-init c =
    let d = c.new-delimiters.ensures in
    record {
      listed = no_lists c.new-delimiters.result c.new-nodes.result.items d.runs d.brackets d.links c.new-nodes.ensures.items;
      sound = starts c.args.links.now c.args.text.now c.new-nodes.result.items c.utf8.text c.new-nodes.ensures.items;
      goes_on = goes_first c.args.links.now c.args.text.now c.new-nodes.result.items c.new-nodes.ensures.items;
      lacks = c.new-missing.ensures c.args.text.now;
    }

pub loop-at-preserved : goal.loop-at-preserved
loop-at-preserved c =
    let t = c.args.text.now in
    let at = c.loop-at.at in
    let n = c.in-Ok.n in
    record {
      listed = c.in-Ok.ensures.listed;
      sound = sound_more c.args.links.now t at c.loop-at.nodes.items c.read_piece.new.nodes.items n c.in-Ok.ensures.reads c.loop-at.invariant.goes_on;
      goes_on = goes_more c.args.links.now t at c.loop-at.nodes.items c.read_piece.new.nodes.items n c.in-Ok.ensures.reads c.loop-at.invariant.goes_on;
      lacks = subst (Lacks c.read_piece.new.missing) (drop-drop n at t) (lacks_all_later c.read_piece.new.missing (drop at t) n c.in-Ok.ensures.kept);
    }

pub from_nodes-requires : goal.from_nodes-requires
from_nodes-requires c =
    let i = c.loop-at.invariant in
    let muted = mutes c.loop-at.delimiters c.loop-at.nodes.items c.change_each.new.nodes.items c.as_slice.result.now i.listed c.as_slice.ensures.value c.change_each.ensures in
    let paired = c.in_ok-pair_runs.ensures 0 (muted_starts c.loop-at.delimiters c.loop-at.nodes.items c.change_each.new.nodes.items c.as_slice-2.result.now i.listed i.sound.slots muted c.as_slice-2.ensures.value) in
    laid_out c.args.links.now c.args.text.now c.loop-at.at c.loop-at.nodes.items c.pair_runs.new.nodes.items (omega (arith, c.loop-at-test.false)) i.sound i.goes_on (muted_tokens c.loop-at.nodes.items c.change_each.new.nodes.items c.pair_runs.new.nodes.items muted paired.value)

pub returns : goal.returns
returns c =
    let i = c.loop-at.invariant in
    let muted = mutes c.loop-at.delimiters c.loop-at.nodes.items c.change_each.new.nodes.items c.as_slice.result.now i.listed c.as_slice.ensures.value c.change_each.ensures in
    let paired = c.in_ok-pair_runs.ensures 0 (muted_starts c.loop-at.delimiters c.loop-at.nodes.items c.change_each.new.nodes.items c.as_slice-2.result.now i.listed i.sound.slots muted c.as_slice-2.ensures.value) in
    read c.args.links.now c.args.text.now c.loop-at.at c.loop-at.nodes.items c.pair_runs.new.nodes.items c.from_nodes.result (omega (arith, c.loop-at-test.false)) i.sound i.goes_on (muted_tokens c.loop-at.nodes.items c.change_each.new.nodes.items c.pair_runs.new.nodes.items muted paired.value) c.from_nodes.ensures
