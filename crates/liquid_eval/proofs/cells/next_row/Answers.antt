use Rattle.std.proofs.Common.{◌≡◌, ◌∙◌, ◌+◌, ℕ, List, ap, subst, rules}
use Rattle.liquid_values.specs.Answers.{Settles}
use Rattle.liquid_values.specs.LoopValues.{row_of}
use Rattle.liquid_values.specs.Standing.{place_of}
use Rattle.liquid_tags.specs.States.{written}
use Rattle.liquid_eval.specs.TableRows.{next_row}
use Rattle.liquid_eval.proofs.cells.next_row.Goals as goal

pub returns : goal.returns
returns c =
    let p = place_of c.args.place.now in
    let row : c.from.result ≡ row_of c.args.columns c.args.passed = search rules in
    let text : c.as_str.result.now ≡ next_row (c.from.result + 2) = search rules in
    subst (λ (x : List ℕ). Settles (written p x c.args.state.now) c.write.result c.write.new.self) (text ∙ ap (λ (n : ℕ). next_row (n + 2)) row) c.write.ensures
