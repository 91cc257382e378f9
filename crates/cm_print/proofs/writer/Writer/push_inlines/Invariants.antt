use Rattle.std.proofs.Common.{◌≡◌, ◌≤◌, ◌++◌, drop}
use Rattle.cm_inlines.specs.Nodes.{tokens_in}
use Rattle.cm_print.specs.InlineNodes.{images_in, place_of}
use Rattle.cm_print.specs.InlineTokens.{outside, printed}
use Rattle.cm_print.specs.Writing.{written}
use Rattle.cm_print.proofs.writer.Writer.push_inlines.Given as goal

abbrev pub invariant-loop-node : goal.invariant-loop-node
invariant-loop-node l = record {
  so_far : written l.self ++ printed (place_of l.place) (tokens_in (drop l.node-index l.node-items)) ≡ written l.initial.self ++ printed outside (tokens_in l.node-items);
  images : images_in l.place ≤ l.node-index;
  most : l.self.most ≡ l.initial.self.most;
}
