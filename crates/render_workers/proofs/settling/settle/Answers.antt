use Rattle.std.proofs.Common.{◌≡◌, ◌∙◌, ap, sym, Some}
use Rattle.std.specs.Prelude.{slice_get}
use Rattle.std.specs.Map.{keys_of}
use Rattle.read_record.specs.declared.outcome.Checked.TheVariants as checked
use Rattle.read_record.specs.Records.{first_other}
use Rattle.render_workers.proofs.WhyLaws.{place-within, reason-at}
use Rattle.render_workers.proofs.TryLaws.{first_found, settled_kept, settled_anew}
use Rattle.render_workers.proofs.settling.settle.Goals as goal

pub key_at-requires : goal.key_at-requires
key_at-requires g c =
    let w = c.args.world.now in
    let view = g.W.World.sight w c.args.item (g.F.Finished.outcomes c.args.outs.now) in
    place-within view c.in-Some.entry.reads c.in-Differs.place (first_found (g.W.World.names w) c.args.item c.requires.item view c.args.found c.in-Some.entry c.in-Some.checked c.in-Some.is c.requires.found ∙ c.in-Differs.is)

pub returns-in-Agrees-clause-settled : goal.returns-in-Agrees-clause-settled
returns-in-Agrees-clause-settled g c =
    let w = c.args.world.now in
    let view = g.W.World.sight w c.args.item (g.F.Finished.outcomes c.args.outs.now) in
    settled_kept (g.W.World.names w) c.args.item c.requires.item view c.args.found c.in-Some.entry c.in-Some.checked c.in-Some.is c.requires.found g.row.R-Meaning.Denot g.R.Meaning.ItemMeaning.item c.args.tally.now c.in-Agrees.is c.name-certified.ensures.certified

pub returns-in-Ok-clause-settled : goal.returns-in-Ok-clause-settled
returns-in-Ok-clause-settled g c =
    let w = c.args.world.now in
    let view = g.W.World.sight w c.args.item (g.F.Finished.outcomes c.args.outs.now) in
    let e = c.in-Some.entry in
    let place = c.in-Differs.place in
    let differs : first_other e.reads view ≡ checked.Differs place = first_found (g.W.World.names w) c.args.item c.requires.item view c.args.found e c.in-Some.checked c.in-Some.is c.requires.found ∙ c.in-Differs.is in
    let there : slice_get (keys_of e.reads) place ≡ Some c.in-Ok.key = c.key_at.ensures ∙ ap Some (sym c.in-Ok.ensures) in
    settled_anew (g.W.World.names w) c.args.item c.requires.item view c.args.found e c.in-Some.checked c.in-Some.is c.requires.found g.R.Meaning.ItemMeaning.item place c.in-Ok.key _ _ _ c.in-Differs.is (reason-at view e.reads place c.in-Ok.key differs there) c.render-in-Ok.ensures.rendered
