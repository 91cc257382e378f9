-- Where an evaluation stands, by the code's own types.
use Rattle.std.specs.Prelude.{ℕ, List, [], ◌∷◌, Option, Some, None}
use Rattle.std.specs.Borrow.{Bor}
use Rattle.site_base.specs.Plain.{Plain, nil}
use Rattle.site_base.specs.View.{plain}
use Rattle.liquid_values.specs.declared.mode.Mode.{Mode}
use Rattle.liquid_values.specs.declared.mode.Mode.TheVariants as mode
use Rattle.liquid_values.specs.declared.locals.ForLoop.{ForLoop, ForLoop', Held-ForLoop-parent, None', Some'}
use Rattle.liquid_values.specs.declared.locals.RowLoop.{RowLoop}
use Rattle.liquid_values.specs.declared.locals.Bound.{Bound}
use Rattle.liquid_values.specs.declared.locals.Bound.TheVariants as bound
use Rattle.liquid_values.specs.declared.locals.Locals.{Locals, Nothing, Local'}
use Rattle.liquid_values.specs.declared.place.Place.{Place}
use Rattle.liquid_values.specs.Places as places
use Rattle.liquid_values.specs.LoopValues.{for_loop, row_loop}

abbrev pub manner_of : Mode → places.Manner
manner_of mode.Body = places.of_body
manner_of mode.Excerpt = places.of_excerpt
manner_of (mode.Layout own content layout) = places.of_layout own content (plain layout)

abbrev mutual
  pub loop_value : ForLoop → Plain
  loop_value (ForLoop' len passed parent) = for_loop len passed (parent_value parent)

  pub parent_value : Held-ForLoop-parent → Plain
  parent_value None' = nil
  parent_value (Some' p outer) = loop_value outer

abbrev pub row_value : RowLoop → Plain
row_value r = row_loop r.len r.columns r.passed

abbrev pub bound_value : Bound → Plain
bound_value (bound.Value v) = plain v.now
bound_value (bound.ForLoop l) = loop_value l.now
bound_value (bound.RowLoop r) = row_value r.now

abbrev pub locals_of : Locals → List (List ℕ × Plain)
locals_of Nothing = []
locals_of (Local' name bound p outer) = (name.now, bound_value bound) ∷ locals_of outer

abbrev pub around_value : Option (Bor ForLoop) → Plain
around_value None = nil
around_value (Some l) = loop_value l.now

abbrev pub place_of : Place → places.Place
place_of p = record {
  file = p.file.now;
  line = p.line;
  page = p.page.now;
  manner = manner_of p.mode.now;
  locals = locals_of p.locals.now;
  around = around_value p.around;
  looping = p.looping;
  quiet = p.quiet;
  tested = p.tested;
}
