use Rattle.std.proofs.Common.{◌≡◌, ◌∙◌, List, ap, map, subst, sym}
use Rattle.std.proofs.lemmas.Int.{to_z-of_z}
use Rattle.site_config.specs.declared.scope.Scope.{Scope}
use Rattle.site_items.specs.Defaults.{by_strength}
use Rattle.site_reader.specs.Placements.{AreKnown}
use Rattle.site_reader.specs.Placing.{seen}
use Rattle.site_reader.specs.Sites.{items_by}
use Rattle.site_reader.proofs.reading.ruled_items.Goals as goal

pub scoped_items-requires-clause-known : goal.scoped_items-requires-clause-known
scoped_items-requires-clause-known c =
    let scopes : map (λ s. s.now) c.deref.result.now ≡ by_strength c.args.config.now.defaults = ap (map (λ s. s.now)) c.deref.ensures.value ∙ c.in_ok-scopes.ensures ∙ ap by_strength c.as_slice.ensures in
    subst (λ (ss : List Scope). AreKnown c.args.config.now ss c.args.files.now) (sym scopes) c.requires.known

pub returns-in-Ok : goal.returns-in-Ok
returns-in-Ok c =
    let scopes : map (λ s. s.now) c.deref.result.now ≡ by_strength c.args.config.now.defaults = ap (map (λ s. s.now)) c.deref.ensures.value ∙ c.in_ok-scopes.ensures ∙ ap by_strength c.as_slice.ensures in
    ap (λ (ss : List Scope). items_by ss c.args.config.now c.args.now c.args.future (map seen c.args.files.now)) (sym scopes)
    ∙ (simp (to_z-of_z, c.ranges.now) at c.in-Ok.ensures)
