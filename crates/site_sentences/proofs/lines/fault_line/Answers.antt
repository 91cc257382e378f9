use Rattle.std.proofs.Common.{◌∙◌, ap, List, ℕ}
use Rattle.site_sentences.specs.Lines.{file_place}
use Rattle.site_sentences.specs.Shown.{shown}
use Rattle.site_sentences.proofs.Saying.{says}
use Rattle.site_sentences.proofs.lines.fault_line.Goals as goal

pub returns : goal.returns
returns c = says c.line.result c.fault_sentence.result.now _ c.fault_sentence.ensures (c.as_str.ensures.value ∙ c.in_ok-place.ensures ∙ ap (λ (path : List ℕ). file_place (shown path) c.args.fault.now.line) c.text.ensures.text) (c.as_str-2.ensures.value ∙ c.in_ok-code.ensures) c.line.ensures
