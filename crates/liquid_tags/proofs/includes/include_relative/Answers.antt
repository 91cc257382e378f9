use Rattle.std.proofs.Common.{◌≡◌, ◌∙◌, ap, subst, List, ℕ, Option}
use Rattle.site_base.specs.declared.faults.SiteFault.{SiteFault}
use Rattle.liquid_grammar.specs.declared.expression.Parameter.{Parameter}
use Rattle.liquid_grammar.specs.declared.tag.NamePart.{NamePart}
use Rattle.liquid_values.specs.Standing.{place_of}
use Rattle.read_record.specs.Answers.{Finds}
use Rattle.read_record.specs.Queries.{Query, bind, run}
use Rattle.liquid_values.proofs.NextLaws.{finds_next}
use Rattle.liquid_tags.specs.Answers.{in_included}
use Rattle.liquid_tags.specs.FileNames.{name_text}
use Rattle.liquid_tags.specs.Includes as includes
use Rattle.liquid_tags.specs.declared.includes.Wanted.{Wanted}
use Rattle.liquid_tags.proofs.includes.include_relative.Goals as goal

pub returns-clause-gives : goal.returns-clause-gives
returns-clause-gives g c =
    let ex = g.X.Excerpts.excerpts c.args.place.now.levels in let p = place_of c.args.place.now in let vars = c.args.assigned.now in
    let view = g.L.Look.view c.args.look.now in let t = g.L.Look.trace c.args.look.now in
    let other = g.L.Look.view c.name_text.new.look in let u = g.L.Look.trace c.name_text.new.look in
    let r = in_included c.find_included.result in let s = g.L.Look.trace c.find_included.new.look in
    let page = p.page.path in let name = c.in_ok-name.name in
    let from_name : c.in_ok-wanted.wanted ≡ includes.if_path (includes.relative_file page name) =
    c.in_ok-wanted.ensures ∙ ap (λ (x : List ℕ). includes.if_path (includes.relative_file x c.as_str.result.now)) c.text.ensures.text ∙ ap (λ (x : List ℕ). includes.if_path (includes.relative_file page x)) c.as_str.ensures in
    let next : List ℕ → Query SiteFault includes.Included = λ x. includes.wanted ex p vars c.args.tag.now.params (includes.if_path (includes.relative_file p.page.path x)) in
    subst (λ (qs : List NamePart). Finds (run view t (bind (name_text ex p vars qs) next)) r s) c.as_slice.ensures
    (finds_next view other t (name_text ex p vars c.as_slice.result.now) next c.in_ok-name.name u c.in_ok-name.ensures.same c.in_ok-name.ensures.gives r s
    (subst (λ (qs : List Parameter). Finds (run other u (includes.wanted ex p vars qs (includes.if_path (includes.relative_file p.page.path c.in_ok-name.name)))) r s) c.as_slice-2.ensures
    (subst (λ (o : Option Wanted). Finds (run other u (includes.wanted ex p vars c.as_slice-2.result.now o)) r s) from_name c.find_included.ensures.gives)))
