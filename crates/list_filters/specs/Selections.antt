-- The filters that choose among elements, or give one value of each. After the reference of Liquid 4 (Shopify) and that of Jekyll 4, "Filters" (`compact`, `map`, `uniq`, `where`).
use Rattle.std.specs.Prelude.{ℕ, List, [], Option, Some}
use Rattle.site_base.specs.Plain.{Plain, list, Items}
use Rattle.site_base.specs.Values.{value_text}
use Rattle.site_base.specs.declared.faults.FaultKind.{FaultKind}
use Rattle.read_record.specs.Queries.{Query, Give, bind}
use Rattle.filter_base.specs.Answers.{made}
use Rattle.filter_base.specs.Arguments.{one, one_or_none, two}
use Rattle.filter_base.specs.Elements.{elements}
use Rattle.filter_base.specs.Keyed.{entries, name_given, keyed}
use Rattle.filter_base.specs.Properties.{properties}
use Rattle.list_filters.specs.Choosing.{chosen, first_of_each, is_filled, is_wanted}
use Rattle.list_filters.specs.declared.selections.Selection.{Selection}
use Rattle.list_filters.specs.declared.selections.Selection.TheVariants.{Compact, Map, Uniq, Where}

abbrev pub compact : Plain → Option Plain → Query FaultKind Plain
compact v p = bind (keyed (name_given p) v) (λ s. Give (list (chosen is_filled (entries s))))

abbrev pub mapped : List ℕ → Plain → Query FaultKind Items
mapped name v = bind (made (elements v)) (λ is. properties name is)

abbrev pub map_property : Plain → Plain → Query FaultKind Plain
map_property v p = bind (mapped (value_text p) v) (λ ps. Give (list ps))

abbrev pub uniq : Plain → Option Plain → Query FaultKind Plain
uniq v p = bind (keyed (name_given p) v) (λ s. Give (list (first_of_each [] (entries s))))

abbrev pub where_property : Plain → Plain → Plain → Query FaultKind Plain
where_property v p w = bind (keyed (Some (value_text p)) v) (λ s. Give (list (chosen (is_wanted w) (entries s))))

abbrev pub selection_filter : Selection → Plain → List Plain → Query FaultKind Plain
selection_filter Compact v ws = bind (made (one_or_none ws)) (λ p. compact v p)
selection_filter Map v ws = bind (made (one ws)) (λ p. map_property v p)
selection_filter Uniq v ws = bind (made (one_or_none ws)) (λ p. uniq v p)
selection_filter Where v ws = bind (made (two ws)) (λ p. where_property v p.0 p.1)
