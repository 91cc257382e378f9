use Rattle.std.proofs.Common.{arith, rules, ◌≡◌, length, sym, subst}
use Rattle.liquid_grammar.specs.declared.piece.Front.TheVariants.{Text}
use Rattle.liquid_grammar.specs.Pieces.{front_of}
use Rattle.liquid_expr.specs.Fits.{Fits}
use Rattle.liquid_expr.proofs.FrontFits.{opens_long, front_fits}
use Rattle.liquid_expr.proofs.front.front_of.Goals as goal

pub markup_at-requires : goal.markup_at-requires
markup_at-requires c = opens_long c.args.text.now c.requires (omega arith)

pub returns-then-start-gt0-clause-fits : goal.returns-then-start-gt0-clause-fits
returns-then-start-gt0-clause-fits c =
    let e : Text c.find_open-start.result ≡ front_of c.args.text.now = search rules in
    subst (Fits (length c.args.text.now)) (sym e) (front_fits c.args.text.now)

pub returns-else-start-gt0-clause-fits : goal.returns-else-start-gt0-clause-fits
returns-else-start-gt0-clause-fits c =
    let e : c.markup_at.result ≡ front_of c.args.text.now = search rules in
    subst (Fits (length c.args.text.now)) (sym e) (front_fits c.args.text.now)
