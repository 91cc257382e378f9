use Rattle.std.proofs.Common.{ℕ, sym, subst, ap}
use Rattle.std.specs.Str.{IsCharBoundary}
use Rattle.cm_links.specs.declared.parts.LinkPart.{LinkPart}
use Rattle.cm_links.proofs.Boundaries.{encloses}
use Rattle.cm_links.proofs.titles.title_to.Goals as goal

pub enclosed-requires : goal.enclosed-requires
enclosed-requires c = encloses c.args.text.now c.in-Some.n c.args.mark (rw c.range_from.ensures.value at c.range_from.utf8) c.requires.start (rw c.range_from.ensures.value at c.in-Some.ensures.end) c.requires.ascii

pub returns-in_ok-enclosed-in-Some-clause-cut : goal.returns-in_ok-enclosed-in-Some-clause-cut
returns-in_ok-enclosed-in-Some-clause-cut c =
    let round = encloses c.args.text.now c.in-Some.n c.args.mark (rw c.range_from.ensures.value at c.range_from.utf8) c.requires.start (rw c.range_from.ensures.value at c.in-Some.ensures.end) c.requires.ascii in
    let P : ℕ → Type 0 = λ n. IsCharBoundary c.args.text.now n in
    subst P (sym (ap (λ (part : LinkPart). part.len) c.in_ok-enclosed-in-Some.ensures)) round.end
