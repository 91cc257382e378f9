use Rattle.std.proofs.Common.{ap, sym, ◌∙◌}
use Rattle.std.specs.Str.{bytes_eq}
use Rattle.site_base.proofs.IndexLaws.{first_has_key}
use Rattle.site_base.proofs.value.index.place_from.Goals as goal

pub returns-then-eq : goal.returns-then-eq
returns-then-eq c =
    let key = c.args.key.now in
    first_has_key key c.args.pairs.now c.args.place c.index-pairs-place.result c.requires (ap (λ x. bytes_eq x key) (sym c.as_str.ensures) ∙ sym c.eq.ensures ∙ c.if-eq.true)
