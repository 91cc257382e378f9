-- Pieces that are printed one behind another.
use Rattle.std.proofs.Common.{◌∙◌, ap, List, ℕ, ◌++◌, append_assoc, length, arith}
use Rattle.std.specs.Prelude.{Result, Ok, Err}
use Rattle.cm_print.specs.Writing.{Prints, Writes, written}
use Rattle.markdown_grammar.specs.declared.html_error.HtmlError.{HtmlError}
use Rattle.cm_print.specs.declared.writer.Writer.{Writer}

pub prints_then : (old mid new : Writer) (a b : List ℕ) (r : Result (Unit {0}) HtmlError) → Writes old mid a → Prints mid new b r → Prints old new (a ++ b) r
prints_then old mid new a b (Ok u) first second = record {
  text = second.text ∙ ap (λ t. t ++ b) first.text ∙ append_assoc (written old) a b;
  most = second.most ∙ first.most;
}
prints_then old mid new a b (Err e) first second = λ long.
    omega (arith, second long, first.most, ap length (ap (λ t. t ++ b) first.text ∙ append_assoc (written old) a b))

pub prints_third : (old mid next new : Writer) (a b d : List ℕ) (r : Result (Unit {0}) HtmlError) → Writes old mid a → Writes mid next b → Prints next new d r → Prints old new (a ++ (b ++ d)) r
prints_third old mid next new a b d r first second third = prints_then old mid new a (b ++ d) r first (prints_then mid next new b d r second third)
