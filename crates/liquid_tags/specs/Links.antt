-- `link` and `post_url`. After Jekyll 4's manual, "Tags Filters", "Links".
use Rattle.std.specs.Prelude.{ℕ, Bool, true, false, List, [], is_none, if◌then◌else◌}
use Rattle.site_base.specs.Path.{path_refusal}
use Rattle.site_base.specs.Plain.{Plain, text}
use Rattle.site_base.specs.Values.{value_text}
use Rattle.site_base.specs.declared.faults.FaultKind.TheVariants.{LinkMissing}
use Rattle.site_base.specs.declared.faults.SiteFault.{SiteFault}
use Rattle.read_record.specs.declared.key.Key.TheVariants.{Link, Post}
use Rattle.read_record.specs.Queries.{Query, Ask, bind}
use Rattle.filter_base.specs.Answers.{limited}
use Rattle.jekyll_filters.specs.Addresses.{address_filter}
use Rattle.jekyll_filters.specs.declared.addresses.AddressFilter.TheVariants.{RelativeUrl}
use Rattle.liquid_grammar.specs.declared.tag.NamePart.{NamePart}
use Rattle.liquid_values.specs.Places.{Place, fails, placed}
use Rattle.liquid_tags.specs.declared.state.State.{State}
use Rattle.liquid_tags.specs.States.{written}
use Rattle.liquid_values.specs.Names.{Excerpting}
use Rattle.liquid_tags.specs.FileNames.{name_text}

abbrev pub is_text : Plain → Bool
is_text (text t) = true
is_text v = false

-- what `relative_url` gives for the address
abbrev pub relative_address : Place → State → Plain → Query SiteFault State
relative_address p s url = bind (placed p (limited (address_filter RelativeUrl url []))) (λ v. written p (value_text v) s)

abbrev pub address : Place → State → Plain → Query SiteFault State
address p s url = elim (is_text url) [ true ↦ relative_address p s url | false ↦ fails p LinkMissing ]

abbrev pub linked : Place → State → List ℕ → Query SiteFault State
linked p s path = if is_none (path_refusal path) then Ask (Link path) (λ v. address p s v) else fails p LinkMissing

abbrev pub post_linked : Place → State → List ℕ → Query SiteFault State
post_linked p s name = Ask (Post name) (λ v. address p s v)

module _ (excerpts : Excerpting) where
  abbrev pub link : Place → List NamePart → State → Query SiteFault State
  link p parts s = bind (name_text excerpts p s.assigned parts) (λ path. linked p s path)

  abbrev pub post_url : Place → List NamePart → State → Query SiteFault State
  post_url p parts s = bind (name_text excerpts p s.assigned parts) (λ name. post_linked p s name)
