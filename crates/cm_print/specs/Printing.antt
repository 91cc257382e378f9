-- What stands in a printer.
use Rattle.std.specs.Prelude.{◌≡◌, ◌<◌, List, ℕ, Result, MatchResult, length, reverse}
use Rattle.cm_print.specs.NodeWalk.{State, closed, state}
use Rattle.cm_print.specs.Writing.{written}
use Rattle.markdown_grammar.specs.declared.html_error.HtmlError.{HtmlError}
use Rattle.markdown_grammar.specs.declared.html_error.HtmlError.TheVariants as error
use Rattle.cm_print.specs.declared.printer.Printer.{Printer}

abbrev pub state_of : Printer → State
state_of p = state p.top (reverse p.outer.items) (written p.writer)

abbrev pub closed_at : ℕ → State → State
closed_at i s = closed i s.top s.outer s.out

-- the printer stands there in the end, or what is printed by then does not fit
pub record Arrives (old new : Printer) (s : State) : Type 0 where
  pub state : state_of new ≡ s
  pub most : new.writer.most ≡ old.writer.most

abbrev pub Exceeds : Printer → List ℕ → HtmlError → Type 0
Exceeds old out e = e ≡ error.TooLong → old.writer.most < length out

abbrev pub Moves : Printer → Printer → State → Result (Unit {0}) HtmlError → Type 0
Moves old new s result = MatchResult result (λ _. Arrives old new s) (Exceeds old s.out)

-- the text stands there in the end, or it does not fit
pub record Shows (old new : Printer) (whole : List ℕ) : Type 0 where
  pub text : written new.writer ≡ whole
  pub most : new.writer.most ≡ old.writer.most

abbrev pub Finishes : Printer → Printer → List ℕ → Result (Unit {0}) HtmlError → Type 0
Finishes old new out result = MatchResult result (λ _. Shows old new out) (Exceeds old out)
