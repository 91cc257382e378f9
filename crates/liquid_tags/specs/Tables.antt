-- What a `tablerow` goes over. After the reference of Liquid 4 (Shopify), "Tags", "Iteration".
use Rattle.std.specs.Prelude.{Bool, true, false, List, length, Option, Some, None}
use Rattle.std.specs.List.{list_any}
use Rattle.site_base.specs.Plain.{Plain, Pairs}
use Rattle.site_base.specs.declared.faults.SiteFault.{SiteFault}
use Rattle.read_record.specs.Queries.{Query, Give, bind}
use Rattle.liquid_grammar.specs.declared.tag.Loop.{Loop}
use Rattle.liquid_grammar.specs.Tags.{has_key}
use Rattle.liquid_values.specs.Places.{Place, found_at}
use Rattle.liquid_values.specs.Names.{Excerpting}
use Rattle.liquid_tags.specs.Conditions.{is_nil}
use Rattle.liquid_tags.specs.Elements.{no_numbers, elements, numbers, cut, columns_of}
use Rattle.liquid_tags.specs.Expressions.{expression}
use Rattle.liquid_tags.specs.declared.elements.Numbers.{Numbers}
use Rattle.liquid_tags.specs.declared.tables.Grid.{Grid}

abbrev pub cut_grid : Numbers → Bool → List Plain → Grid
cut_grid ns reversed vs = let kept = cut ns reversed vs in record { elements = kept; columns = columns_of ns.columns (length kept) }

module _ (excerpts : Excerpting) where
  abbrev pub filled : Place → Pairs → Loop → Plain → Query SiteFault (Option Grid)
  filled p vars l v =
      bind (found_at p (elements v)) (λ vs.
      bind (numbers excerpts p vars no_numbers l.parts) (λ ns.
      Give (Some (cut_grid ns (list_any (has_key None) l.parts) vs))))

  -- nil makes no table
  abbrev pub table : Place → Pairs → Loop → Query SiteFault (Option Grid)
  table p vars l = bind (expression excerpts p vars l.list) (λ v. elim (is_nil v) [ true ↦ Give None | false ↦ filled p vars l v ])
