use Rattle.std.proofs.Common.{List, ◌∙◌, ap, sym, rules, tests, refl}
use Rattle.std.specs.Prelude.{map}
use Rattle.std.specs.Slice.Iter.{iter_rest}
use Rattle.std.specs.Borrow.{Bor}
use Rattle.std.specs.Map.{lookup}
use Rattle.std.specs.Option.{option_map}
use Rattle.std.specs.Str.{bytes_eq}
use Rattle.std.proofs.lemmas.Iterator.{YieldsList-from_slice}
use Rattle.std.proofs.lemmas.Iterator.Search.{find_from_yields_List}
use Rattle.jekyll_filters.specs.Table.{rows, meaning_of}
use Rattle.jekyll_filters.specs.declared.filter_name.FilterName.{FilterName}
use Rattle.filter_base.proofs.TableLaws.{Row, entry, found_meaning}
use Rattle.jekyll_filters.proofs.filter_name.FilterName.named.Goals as goal

pub returns-in-Some : goal.returns-in-Some
unfolding rows
returns-in-Some c =
    let name = c.args.name.now in
    ap (option_map (λ (b : Bor (Row FilterName)). meaning_of b.now.1)) (sym c.in-Some.is)
    ∙ found_meaning meaning_of name (iter_rest c.iter.result) c.find.result (find_from_yields_List (λ (r : Row FilterName). bytes_eq name r.0.now) _ _ c.find.result c.find.ensures.ran (YieldsList-from_slice (iter_rest c.iter.result) refl) (λ x b q k. search (rules, tests)))
    ∙ ap (λ (rs : List (Row FilterName)). lookup (bytes_eq name) (map (entry meaning_of) rs)) c.iter.ensures.rest

pub returns-in-None : goal.returns-in-None
unfolding rows
returns-in-None c =
    let name = c.args.name.now in
    ap (option_map (λ (b : Bor (Row FilterName)). meaning_of b.now.1)) (sym c.in-None.is)
    ∙ found_meaning meaning_of name (iter_rest c.iter.result) c.find.result (find_from_yields_List (λ (r : Row FilterName). bytes_eq name r.0.now) _ _ c.find.result c.find.ensures.ran (YieldsList-from_slice (iter_rest c.iter.result) refl) (λ x b q k. search (rules, tests)))
    ∙ ap (λ (rs : List (Row FilterName)). lookup (bytes_eq name) (map (entry meaning_of) rs)) c.iter.ensures.rest
