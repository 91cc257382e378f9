use Rattle.std.proofs.Common.{◌≡◌, ◌∙◌, ap, subst, sym}
use Rattle.std.specs.Result.{OnOk}
use Rattle.site_base.specs.Plain.{Pairs, hash, set}
use Rattle.site_base.specs.Path.{segments}
use Rattle.site_base.specs.View.{plain}
use Rattle.site_base.proofs.ValueLaws.{set_taken}
use Rattle.site_reader.specs.Data.{with_value}
use Rattle.site_reader.proofs.DataLaws.{in_folder}
use Rattle.site_reader.proofs.data.+put_value.Goals as goal

pub returns-in-None : goal.returns-in-None
returns-in-None t c = rw c.in-None.ensures.parts c.set.ensures

pub returns-in_ok-put_value-in-Some : goal.returns-in_ok-put_value-in-Some
returns-in_ok-put_value-in-Some t c =
    let folder = c.in-Some.folder.now in
    let made : with_value (segments c.in-Some.rest.now) (plain c.args.value) c.in_ok-inside-in-Some.inside ≡ c.put_value.new.tree = sym c.in_ok-put_value-in-Some.ensures in
    let whole : set folder (hash c.put_value.new.tree) c.take_hash.new.tree ≡ with_value (segments c.args.names.now) (plain c.args.value) c.args.tree.now =
    ap (set folder (hash c.put_value.new.tree)) c.in_ok-inside-in-Some.ensures.left
    ∙ set_taken folder (hash c.put_value.new.tree) c.args.tree.now
    ∙ ap (λ (ps : Pairs). set folder (hash ps) c.args.tree.now) (sym made ∙ ap (with_value (segments c.in-Some.rest.now) (plain c.args.value)) c.in_ok-inside-in-Some.ensures.taken)
    ∙ sym (in_folder folder c.in-Some.rest.now (plain c.args.value) c.args.tree.now)
    ∙ ap (λ ns. with_value ns (plain c.args.value) c.args.tree.now) (sym c.in-Some.ensures.parts) in
    subst (λ ps. OnOk c.set-in-Some.result (c.set-in-Some.new.tree ≡ ps)) whole c.set-in-Some.ensures
