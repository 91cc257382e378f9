use Rattle.std.proofs.Common.{List, ap, sym, ℕ, ◌++◌, ◌∙◌}
use Rattle.cm_blocks.proofs.LineLaws.{front_range, replaces_nul, replaces_plain}
use Rattle.cm_blocks.proofs.lines.push_front.Goals as goal

pub returns-then-size-eq0 : goal.returns-then-size-eq0
returns-then-size-eq0 c = replaces_nul c.args.out.now c.push_str.new.self c.args.text.now c.utf8.text c.requires (sym c.plain_len-size.ensures.value ∙ c.if-size-eq0.true) c.in_ok-push_str.ensures.ok

pub returns : goal.returns
returns c = replaces_plain c.args.out.now c.push_str-2.new.self c.args.text.now c.plain_len-size.result c.plain_len-size.ensures.value c.if-size-eq0.false c.plain_len-size.ensures.cut (c.in_ok-push_str-2.ensures.ok ∙ ap (λ (u : List ℕ). c.args.out.now ++ u) (c.range.ensures.value ∙ front_range c.plain_len-size.result c.args.text.now))
