-- What an item of a site comes to: its text is evaluated, converted where it is Markdown, and put into its layouts. After Jekyll 4's manual, "Rendering process".
use Rattle.std.specs.Prelude.{ℕ, List, Result, Ok, Err}
use Rattle.site_base.specs.declared.faults.SiteFault.{SiteFault}
use Rattle.site_base.specs.declared.item_name.ItemName.{ItemName}
use Rattle.liquid_eval.specs.Excerpts.{text_or_empty}
use Rattle.liquid_eval.specs.Texts.{conversion, text_evaluation}
use Rattle.liquid_values.specs.Places.{at_start, of_body}
use Rattle.page_render.specs.Layouts.{laid_out}
use Rattle.page_render.specs.declared.item.Made.{Made}
use Rattle.read_record.specs.Outcomes.{Page}
use Rattle.read_record.specs.declared.outcome.Outcome.TheVariants.{Done, Fault}
use Rattle.read_record.specs.declared.renderer.Rendered.{Rendered}
use Rattle.read_record.specs.declared.renderer.Rendered.TheVariants as rendered
use Rattle.read_record.specs.declared.stop.Stop.{Stop}
use Rattle.read_record.specs.declared.stop.Stop.TheVariants as stop
use Rattle.read_record.specs.Queries.{Query, Give, Ask, bind}
use Rattle.read_record.specs.declared.key.Key.TheVariants.{Source}

-- what is made of an item's source: it is evaluated, and converted
abbrev pub text_of : ItemName → List ℕ → Query SiteFault (List ℕ)
text_of n source = bind (text_evaluation (at_start n.path n of_body) source) (λ made. conversion n made)

-- an item's own text
abbrev pub own_text : ItemName → Query SiteFault (List ℕ)
own_text n = Ask (Source n) (λ source. text_of n (text_or_empty source))

-- its own text is its content, and that in its layouts its output
abbrev pub item : ItemName → Query SiteFault Page
item n = bind (own_text n) (λ own. bind (laid_out n own) (λ output. Give (record { content = own; output = output })))

-- ---- what the code made, as a page

abbrev pub page_of : Made → Page
page_of m = record { content = m.content; output = m.output }

abbrev pub in_pages : {E : Type 0} → Result Made E → Result Page E
in_pages (Ok m) = Ok (page_of m)
in_pages (Err e) = Err e

-- how a render ends, by what was made
abbrev pub rendered_by : Result Made (Stop SiteFault) → Rendered
rendered_by (Ok m) = rendered.Out (Done m.content m.output)
rendered_by (Err (stop.Fault f)) = rendered.Out (Fault f)
rendered_by (Err (stop.Needs j)) = rendered.Needs j
rendered_by (Err stop.Memory) = rendered.Memory
