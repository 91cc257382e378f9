use Rattle.std.proofs.Common.{◌≡◌, ◌∙◌, ◌<◌, ◌≤◌, ◌^◌, ℕ, ℤ, pos, ◌+ℤ◌, ◌≤ℤ◌, List, Some, length, slice_get, sym, ap, subst, arith, w64, to_z, of_z, rules, FitsSigned}
use Rattle.std.proofs.lemmas.Int.{ints}
use Rattle.site_base.specs.Plain.{Plain, int, item_list, count_pairs}
use Rattle.filter_base.specs.Elements.{counted}
use Rattle.liquid_tags.specs.Elements.{pair_list}
use Rattle.liquid_tags.specs.Sources.{all_of, next_number}
use Rattle.liquid_tags.proofs.ElementLaws.{count_items, count_pair_list, counted_len, number_at}
use Rattle.liquid_tags.proofs.elements.Whole.at.Goals as goal

pub at-requires : goal.at-requires
at-requires c =
    let all : c.args.self.now ≡ item_list c.in-List.list = sym c.self.view_is ∙ ap all_of c.in-List.is in
    omega (arith, c.requires, count_items c.in-List.list, ap length all)

pub pair_at-requires : goal.pair_at-requires
pair_at-requires c =
    let all : c.args.self.now ≡ pair_list c.in-Pairs.hash = sym c.self.view_is ∙ ap all_of c.in-Pairs.is in
    omega (arith, c.requires, count_pair_list c.in-Pairs.hash, ap length all)

pub number_at-requires : goal.number_at-requires
number_at-requires c =
    let a = c.in-Numbers.first in let n = c.in-Numbers.field-1 in
    let all : c.args.self.now ≡ item_list (counted a n) = sym c.self.view_is ∙ ap all_of c.in-Numbers.is in
    let small : c.args.place < n = omega (arith, c.requires, counted_len a n, ap length all) in
    let top : (a +ℤ pos n) ≤ℤ pos (2 ^ 63) = subst (λ s. next_number s ≤ℤ pos (2 ^ 63)) c.in-Numbers.is c.self.invariant in
    let fits : FitsSigned w64 a = search rules in
    omega (arith, ints)

pub returns-in-Numbers : goal.returns-in-Numbers
returns-in-Numbers c =
    let a = c.in-Numbers.first in let n = c.in-Numbers.field-1 in
    let all : c.args.self.now ≡ item_list (counted a n) = sym c.self.view_is ∙ ap all_of c.in-Numbers.is in
    let small : c.args.place < n = omega (arith, c.requires, counted_len a n, ap length all) in
    let fits : FitsSigned w64 a = search rules in
    let is : a +ℤ pos c.args.place ≡ to_z w64 (of_z w64 c.number_at.result) = omega (arith, ints) in
    ap (λ vs. slice_get vs c.args.place) all ∙ number_at a n c.args.place small ∙ ap (λ (b : ℤ). Some (int b)) is
