use Rattle.std.proofs.Common.{[]}
use Rattle.site_base.specs.Plain.{Plain}
use Rattle.site_base.specs.Values.{value_text}
use Rattle.site_base.specs.View.{plain}
use Rattle.jekyll_filters.specs.Addresses.{address_filter}
use Rattle.jekyll_filters.specs.declared.addresses.AddressFilter.TheVariants.{RelativeUrl}
use Rattle.filter_base.specs.Answers.{limited}
use Rattle.liquid_values.proofs.PlaceLaws.{settles_then}
use Rattle.liquid_values.specs.Places.{placed}
use Rattle.liquid_values.specs.Standing.{place_of}
use Rattle.liquid_tags.specs.States.{written}
use Rattle.liquid_tags.proofs.links.relative_address.Goals as goal

pub returns-clause-gives : goal.returns-clause-gives
returns-clause-gives g c =
    let p = place_of c.args.place.now in
    settles_then (g.L.Look.view c.args.look.now) (g.L.Look.trace c.args.look.now) (placed p (limited (address_filter RelativeUrl (plain c.args.url.now) []))) (λ (v : Plain). written p (value_text v) c.args.state.now)
    (plain c.in_ok-value.value) (g.L.Look.trace c.apply_jekyll.new.look) c.write_value.result c.write_value.new.self c.in_ok-value.ensures.gives c.write_value.ensures
