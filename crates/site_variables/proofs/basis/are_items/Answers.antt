use Rattle.std.proofs.Common.{◌≡◌, length, map, arith, ap, sym, ◌∙◌}
use Rattle.std.proofs.lemmas.List.{length-map}
use Rattle.site_variables.specs.Resting.{item_facts, noted_facts}
use Rattle.site_variables.proofs.basis.are_items.Goals as goal

pub returns-then-noted-items : goal.returns-then-noted-items
returns-then-noted-items c = (
  λ h. cc,
  λ e. let long : length c.args.noted.now ≡ length c.args.items.now = sym (length-map c.args.noted.now noted_facts) ∙ ap length e ∙ length-map c.args.items.now item_facts in
      absurd (omega (arith, long, c.if-noted-items.true)),
)
