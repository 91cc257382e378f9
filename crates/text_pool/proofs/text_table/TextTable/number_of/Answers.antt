use Rattle.std.proofs.Common.{nat_eq, sym, ap, subst, ◌∙◌}
use Rattle.std.specs.Cmp.Lexicographic.{pointwise, nat_list_eq_equiv, same_text}
use Rattle.text_pool.specs.TextKeys.{bytes_in}
use Rattle.text_pool.specs.Texts.{IsHeld, Lacks, bytes_of}
use Rattle.text_pool.proofs.TableLaws.{finds, finds_none}
use Rattle.text_pool.proofs.text_table.TextTable.number_of.Goals as goal

pub returns-in-Some : goal.returns-in-Some
returns-in-Some c =
    let bytes = c.args.bytes.now in
    let number = c.in-Some.number.now in
    let found =
    finds c.self.inside.numbers.entries c.self.inside.slots c.self.invariant (λ k. pointwise nat_eq bytes (bytes_in k)) bytes (λ k t. same_text bytes (bytes_in k) (sym t)) number (sym c.in-Some.ensures.value)
    in
    (subst (λ t. IsHeld t number) c.self.view_is found.0, ap (λ t. bytes_of t number) (sym c.self.view_is) ∙ found.1)

pub returns : goal.returns
returns c =
    let bytes = c.args.bytes.now in
    subst (λ t. Lacks t bytes) c.self.view_is (
    finds_none c.self.inside.numbers.entries c.self.inside.slots c.self.invariant (λ k. pointwise nat_eq bytes (bytes_in k)) bytes
    (λ k e. ap (pointwise nat_eq bytes) (sym e) ∙ nat_list_eq_equiv.refl bytes)
    (sym c.in-None.ensures.value)
    )
