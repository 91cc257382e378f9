use Rattle.std.proofs.Common.{rules, tests, ◌==◌, ap, ◌∙◌}
use Rattle.std.proofs.lemmas.Iterator.Consumers.{count_from_yields_List, YieldsList-at, YieldsList-from_filter}
use Rattle.std.proofs.lemmas.Iterator.Splits.{YieldsList-from_slice_split}
use Rattle.std.proofs.lemmas.List.Sums.{length-filter}
use Rattle.site_base.specs.Path.{segments}
use Rattle.site_files.specs.Choosing.{is_hidden}
use Rattle.site_files.proofs.place.has_one_hidden.Goals as goal

pub returns : goal.returns
returns c =
    ap (λ n. n == 1)
    (count_from_yields_List _ c.count.result c.count.ensures.ran
    (YieldsList-from_filter _ is_hidden
    (YieldsList-at c.filter.ensures.source
    (YieldsList-from_slice_split _ (λ b. b == 47) c.args.path.now c.split.ensures.rest c.split.ensures.done c.split.ensures.closure (λ x b q k. search (rules, tests))))
    c.filter.ensures.closure (λ x b q k. search (rules, tests)))
    ∙ length-filter is_hidden (segments c.args.path.now))
