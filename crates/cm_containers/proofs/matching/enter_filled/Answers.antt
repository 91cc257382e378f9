use Rattle.std.proofs.Common.{sym, ◌∙◌}
use Rattle.cm_containers.specs.Spots.{text_at}
use Rattle.markdown_grammar.specs.Containers as grammar
use Rattle.cm_containers.proofs.Filling.{kept_filled, kept_item}
use Rattle.cm_containers.proofs.matching.enter_filled.Goals as goal
use Rattle.cm_containers.proofs.matching.enter_filled.Goals.{else-not-is_filled-via-then-not-is_filled+else-is_blank_from, else-not-is_filled-via-else-not-is_filled}

pub returns-clause-rest : goal.returns-clause-rest
returns-clause-rest c =
    let t = text_at c.args.line.now c.args.spot in
    elim c.else-not-is_filled.branch [
      | else-not-is_filled-via-then-not-is_filled+else-is_blank_from w ↦ c.enter_item.ensures.rest ∙ kept_item c.args.is_filled c.args.indent c.args.spot.column t (sym w.is_blank_from.ensures ∙ w.if-is_blank_from.false)
      | else-not-is_filled-via-else-not-is_filled w ↦ c.enter_item.ensures.rest ∙ kept_filled c.args.is_filled (grammar.item_entry c.args.indent c.args.spot.column t) w.if-not-is_filled.false
    ]
