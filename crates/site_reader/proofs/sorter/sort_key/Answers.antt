use Rattle.std.proofs.Common.{◌≡◌, IfOk, ap, subst, ◌∙◌}
use Rattle.site_reader.specs.Ranks.{sort_key}
use Rattle.site_reader.specs.Sorters.{sorting_of}
use Rattle.site_reader.specs.declared.sort_key.SortKey.{SortKey}
use Rattle.site_reader.proofs.SorterLaws.{by_sorter, without_sorter}
use Rattle.site_reader.proofs.sorter.sort_key.Goals as goal

pub returns-in-Some : goal.returns-in-Some
returns-in-Some c =
    let vars = c.args.vars.now in let s = c.in-Some.sorter.now in
    subst (λ (key : SortKey). IfOk c.key.result (λ made. made ≡ key))
    (ap (λ below. sort_key (sorting_of s) below vars) c.below_folder.ensures ∙ by_sorter c.args.config.now c.args.sorters.now c.requires c.args.kind c.args.path.now vars s c.in-Some.ensures) c.key.ensures

pub returns-in-None : goal.returns-in-None
returns-in-None c = without_sorter c.args.config.now c.args.sorters.now c.requires c.args.kind c.args.path.now c.args.vars.now c.in-None.ensures
