use Rattle.std.proofs.Common.{ap, ◌∙◌}
use Rattle.std.specs.Ordering.{nat_cmp}
use Rattle.std.specs.BTreeMap.{btree_map_len, get}
use Rattle.site_base.specs.Fingerprints.{fingerprint}
use Rattle.site_base.proofs.IndexLaws.{none_has_key, some_noted}
use Rattle.site_base.proofs.value.index.place_in.Goals as goal

pub returns-in-None : goal.returns-in-None
returns-in-None c =
    let key = c.args.key.now in
    let places = c.args.places.now in
    none_has_key key c.args.pairs.now (c.in-None.ensures.value ∙ ap (get nat_cmp places) c.fingerprint.ensures ∙ c.requires (some_noted _ (btree_map_len places) c.is_empty.ensures c.if-is_empty.false) (fingerprint key))
