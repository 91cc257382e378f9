use Rattle.std.proofs.Common.{◌≡◌, false, drop, length, arith, ap, sym, ◌∙◌}
use Rattle.std.proofs.lemmas.Slice.{between_to_end}
use Rattle.std.specs.Prelude.{take_while}
use Rattle.site_base.specs.Lines.{lines}
use Rattle.front_yaml.specs.Front.{begins_white, is_blank, total}
use Rattle.front_yaml.proofs.FrontLemmas.{blank_at}
use Rattle.front_yaml.proofs.front_matter.blank_end.Goals as goal

pub returns-clause-value : goal.returns-clause-value
returns-clause-value c =
    let bytes = c.args.bytes.now in
    let at = c.loop-next.at in
    let none : begins_white (drop at bytes) ≡ false =
    ap begins_white (sym (between_to_end bytes at (length bytes) (omega arith))) ∙ sym c.begins_white.ensures.value ∙ c.loop-next-test.false in
    let empty : total (take_while is_blank (lines (drop at bytes))) ≡ 0 = blank_at (drop at bytes) none in
    omega (arith, empty)
