use Rattle.std.proofs.Common.{List, ap, sym, subst, ◌∙◌}
use Rattle.std.specs.String.{string_bytes}
use Rattle.site_config.specs.declared.collection.Collection.{Collection}
use Rattle.site_config.specs.Seen.{HasNames}
use Rattle.site_config.proofs.SeenLaws.{names_more}
use Rattle.site_config.proofs.collections.add_named.Goals as goal

pub returns-clause-seen : goal.returns-clause-seen
returns-clause-seen c =
    let old = c.args.seen.now in
    let new = c.insert.new.self in
    let made = c.in_ok-read.field-0 in
    subst (λ (cs : List Collection). HasNames new cs) (sym c.in_ok-push.ensures.ok)
    (names_more old new c.args.made.now made (string_bytes c.in_ok-from_str.field-0)
    (c.in_ok-from_str.ensures.ok ∙ sym (ap (λ (x : Collection). x.name) c.in_ok-read.ensures))
    c.in_ok-insert.ensures.updates c.requires)
