use Rattle.std.proofs.Common.{◌∙◌, ap, List, Some}
use Rattle.std.specs.List.{position}
use Rattle.std.specs.Str.{bytes_eq}
use Rattle.site_base.specs.Plain.{get}
use Rattle.site_base.specs.View.{plain}
use Rattle.site_base.specs.declared.value.Pair.{Pair}
use Rattle.site_base.proofs.ValueLaws.{get_found, get_missing}
use Rattle.site_base.proofs.value.HashBody.get.Goals as goal

pub returns-in-Some : goal.returns-in-Some
returns-in-Some c =
    let key = c.args.key.now in
    ap (λ (p : Pair). Some (plain p.value)) c.index.ensures
    ∙ get_found key c.self.inside.pairs.items c.in-Some.place c.index.result.now (c.in-Some.ensures ∙ ap (λ (ps : List Pair). position (λ p. bytes_eq key p.key) ps) c.as_slice.ensures.value)
    ∙ ap (get key) c.self.view_is

pub returns-in-None : goal.returns-in-None
returns-in-None c =
    let key = c.args.key.now in
    get_missing key c.self.inside.pairs.items (c.in-None.ensures ∙ ap (λ (ps : List Pair). position (λ p. bytes_eq key p.key) ps) c.as_slice.ensures.value)
    ∙ ap (get key) c.self.view_is
