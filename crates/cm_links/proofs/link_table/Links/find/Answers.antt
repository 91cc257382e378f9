use Rattle.std.proofs.Common.{arith, ap, sym, ◌∙◌}
use Rattle.markdown_grammar.specs.Definitions.{look_up}
use Rattle.markdown_grammar.specs.Labels.{label_key}
use Rattle.cm_links.proofs.TableLaws.{place_within, found_there, found_nowhere}
use Rattle.cm_links.proofs.link_table.Links.find.Goals as goal

pub index-requires : goal.index-requires
index-requires c =
    let within = place_within c.self.inside.places c.self.inside.definitions.items c.args.label.now c.as_str.result.now c.in-Some.place.now c.as_str.utf8 (c.as_str.ensures.value ∙ c.in_ok-key.ensures) c.self.invariant (sym c.in-Some.ensures.value) in
    omega (arith, within, c.self.inside.definitions.ok.0)

pub returns-in-Some : goal.returns-in-Some
returns-in-Some c =
    found_there c.self.inside.places c.self.inside.definitions.items c.args.label.now c.as_str.result.now c.in-Some.place.now c.index.result.now c.as_str.utf8 (c.as_str.ensures.value ∙ c.in_ok-key.ensures) c.self.invariant (sym c.in-Some.ensures.value) c.index.ensures
    ∙ ap (look_up (label_key c.args.label.now)) c.self.view_is

pub returns : goal.returns
returns c =
    found_nowhere c.self.inside.places c.self.inside.definitions.items c.args.label.now c.as_str.result.now c.as_str.utf8 (c.as_str.ensures.value ∙ c.in_ok-key.ensures) c.self.invariant (sym c.in-None.ensures.value)
    ∙ ap (look_up (label_key c.args.label.now)) c.self.view_is
