use Rattle.std.proofs.Common.{◌≡◌, ◌<◌, ◌∙◌, None, Some, length, subst, sym}
use Rattle.std.specs.Prelude.{MatchOption, slice_get}
use Rattle.std.specs.FinMap.{get}
use Rattle.read_record.specs.Records.{first_other}
use Rattle.memo_table.specs.Lending.{EntriesAndWorld}
use Rattle.render_workers.proofs.TryLaws.{found_right, settled_found}
use Rattle.render_workers.proofs.settling.settle_lent.Goals as goal

pub checked-found-requires : goal.checked-found-requires
checked-found-requires g c = subst (λ (l : EntriesAndWorld g.row.W.Denot). c.args.item < length (g.W.World.names l.world)) (sym c.requires.lent) c.requires.item

pub returns-clause-lent : goal.returns-clause-lent
returns-clause-lent g c = c.checked-found.ensures.same ∙ c.requires.lent

pub settle-requires-clause-found : goal.settle-requires-clause-found
settle-requires-clause-found g c =
    let w = c.args.world.now in
    let known = g.F.Finished.outcomes c.args.outs.now in
    let n = c.name.result.now in
    found_right (slice_get (g.W.World.names w) c.args.item) n c.name.ensures (g.W.World.sight w c.args.item known) c.args.memo.now c.checked-found.result
    (subst (λ (l : EntriesAndWorld g.row.W.Denot). MatchOption c.checked-found.result (get l.entries n ≡ None) (λ r. (get l.entries n ≡ Some r.0) × (r.1 ≡ first_other r.0.reads (g.W.World.sight l.world c.args.item known)))) c.requires.lent c.checked-found.ensures.found)
    c.checked-found.ensures.named

pub returns-clause-settled : goal.returns-clause-settled
returns-clause-settled g c =
    let w = c.args.world.now in
    let known = g.F.Finished.outcomes c.args.outs.now in
    let n = c.name.result.now in
    settled_found (slice_get (g.W.World.names w) c.args.item) n c.name.ensures (g.W.World.sight w c.args.item known) c.args.memo.now g.R.Meaning.ItemMeaning.item c.checked-found.result _ _ _
    (subst (λ (l : EntriesAndWorld g.row.W.Denot). MatchOption c.checked-found.result (get l.entries n ≡ None) (λ r. (get l.entries n ≡ Some r.0) × (r.1 ≡ first_other r.0.reads (g.W.World.sight l.world c.args.item known)))) c.requires.lent c.checked-found.ensures.found)
    c.settle.ensures.settled
