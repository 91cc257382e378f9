use Rattle.std.proofs.Common.{◌≡◌, ◌≤◌, ◌∙◌, ◌++◌, [], ap, sym, append-nil, arith, length, drop, drop_of_length-le}
use Rattle.cm_inlines.specs.Nodes.{tokens_in}
use Rattle.std.proofs.lemmas.Result.{err_from_is_err_and}
use Rattle.cm_print.specs.InlineNodes.{place_of}
use Rattle.cm_print.specs.InlineTokens.{printed}
use Rattle.cm_print.specs.Writing.{written}
use Rattle.cm_print.proofs.NodeLaws.{node_refused, node_step, nodes_all}
use Rattle.cm_print.proofs.writer.Writer.push_inlines.Goals as goal

pub loop-node-preserved : goal.loop-node-preserved
loop-node-preserved c = record {
  so_far = node_step _ _ _ (place_of c.loop-node.place) (place_of c.behind-place.result) c.nodes-node-items.result.now c.loop-node.node-index c.node-item.result (omega arith) c.node-item.is c.behind-place.ensures.place c.loop-node.invariant.so_far
      c.in_ok-push_node.ensures.text;
  images = omega (arith, c.behind-place.ensures.images, c.loop-node.invariant.images);
  most = c.in_ok-push_node.ensures.most ∙ c.loop-node.invariant.most;
}

pub returns-in_err-push_node : goal.returns-in_err-push_node
returns-in_err-push_node c =
    let e = err_from_is_err_and c.from_residual.result c.from_residual.ensures.1 in
    let all = nodes_all c.args.inlines.now c.nodes-node-items.result.now c.nodes-node-items.ensures in
    rw (e.1, e.2) (λ long. rw all at
    (node_refused _ _ c.args.self.now.most (place_of c.loop-node.place) c.nodes-node-items.result.now c.loop-node.node-index c.node-item.result (omega arith) c.node-item.is c.loop-node.invariant.so_far
    (rw c.loop-node.invariant.most at (c.in_err-push_node.ensures long))))

pub returns : goal.returns
returns c =
    let past : length c.nodes-node-items.result.now ≤ c.loop-node.node-index = omega arith in
    let none : drop c.loop-node.node-index c.nodes-node-items.result.now ≡ [] = drop_of_length-le c.nodes-node-items.result.now past in
    record {
      text = sym (append-nil (written c.loop-node.self)) ∙ ap (λ ns. written c.loop-node.self ++ printed (place_of c.loop-node.place) (tokens_in ns)) (sym none) ∙ c.loop-node.invariant.so_far
          ∙ ap (λ t. written c.args.self.now ++ t) (nodes_all c.args.inlines.now c.nodes-node-items.result.now c.nodes-node-items.ensures);
      most = c.loop-node.invariant.most;
    }
