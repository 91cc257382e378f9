use Rattle.std.proofs.Common.{rules, tests, List, ℕ, Bool, Bor, codes, ◌∙◌}
use Rattle.std.specs.Prelude.{nat_eq}
use Rattle.std.specs.List.{starts_with}
use Rattle.std.proofs.lemmas.Iterator.{YieldsList-from_slice}
use Rattle.std.proofs.lemmas.Iterator.Search.{any_from_yields_List}
use Rattle.clap.proofs.WalkLemmas.{list_any-map}
use Rattle.site_words.proofs.reading.has_hyphen.Goals as goal

pub returns : goal.returns
returns c =
    let test : Bor (List ℕ) → Bool = λ r. starts_with nat_eq r.now (codes "-") in
    any_from_yields_List test _ _ c.any.result c.any.ensures.ran (YieldsList-from_slice _ c.iter.ensures.rest) (λ x b q k. search (rules, tests))
    ∙ list_any-map (λ w. starts_with nat_eq w (codes "-")) (λ w. w.now) c.args.words.now
