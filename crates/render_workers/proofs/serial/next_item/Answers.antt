use Rattle.std.proofs.Common.{◌≡◌, ◌<◌, ◌∙◌, ap, length, option_map, subst, sym}
use Rattle.std.specs.Prelude.{IfSome, slice_get}
use Rattle.std.specs.FinMap.{get}
use Rattle.read_record.specs.Records.{first_other}
use Rattle.memo_table.specs.Lending.{EntriesAndWorld}
use Rattle.render_workers.specs.declared.settling.Settled.TheVariants as settled
use Rattle.render_workers.specs.Turns.{IsAddedNew, IsTurn}
use Rattle.render_workers.proofs.FoldLaws.{misses-nothing}
use Rattle.render_workers.proofs.TryLaws.{kept_turn, new_turn, never_waits, noted_right, noted_settled}
use Rattle.render_workers.proofs.serial.next_item.Goals as goal

pub checked-checked-requires : goal.checked-checked-requires
checked-checked-requires g c = subst (λ v. c.args.item < length (g.W.World.names v)) (sym c.requires.world) c.requires.item

pub settle-requires-clause-found : goal.settle-requires-clause-found
settle-requires-clause-found g c =
    let w = c.args.world.now in
    let known = slice_get c.args.progress.now.outs in
    let n = c.name-name.result.now in
    let m = c.args.noted.now.entries in
    noted_right (slice_get (g.W.World.names w) c.args.item) n c.name-name.ensures (g.W.World.sight w c.args.item known) m c.entry.result c.checked-checked.result c.with_check-found.result
    (c.entry.ensures.found ∙ ap (λ (x : EntriesAndWorld g.row.W.Denot). get x.entries n) c.checked-checked.ensures.same)
    (subst (λ v. c.checked-checked.result ≡ option_map (λ e. first_other e.reads (g.W.World.sight v c.args.item known)) (get m n)) c.requires.world c.checked-checked.ensures.found)
    c.with_check-found.ensures c.entry.ensures.named

pub returns-in_ok-outcome-in-Kept-clause-turn : goal.returns-in_ok-outcome-in-Kept-clause-turn
returns-in_ok-outcome-in-Kept-clause-turn g c =
    let w = c.args.world.now in
    let known = slice_get c.args.progress.now.outs in
    let view = g.W.World.sight w c.args.item known in
    let n = c.name-name.result.now in
    let m = c.args.noted.now.entries in
    let had = noted_settled (slice_get (g.W.World.names w) c.args.item) n c.name-name.ensures view m c.entry.result c.checked-checked.result c.with_check-found.result
    (c.entry.ensures.found ∙ ap (λ (x : EntriesAndWorld g.row.W.Denot). get x.entries n) c.checked-checked.ensures.same)
    (subst (λ v. c.checked-checked.result ≡ option_map (λ e. first_other e.reads (g.W.World.sight v c.args.item known)) (get m n)) c.requires.world c.checked-checked.ensures.found)
    c.with_check-found.ensures {M = g.row.R-Meaning.Denot} g.R.Meaning.ItemMeaning.item (settled.Kept c.in-Kept.entry) c.args.tally.now c.settle.new.tally c.in-Kept.ensures.settled in
    subst (λ (x : EntriesAndWorld g.row.W.Denot). IfSome (slice_get (g.W.World.names w) c.args.item) (λ name. IsTurn view name (g.R.Meaning.ItemMeaning.item name) c.add.result c.args.progress.now c.add.new.self m x.entries c.args.tally.now c.settle.new.tally))
    (sym c.checked-checked.ensures.same)
    (kept_turn (slice_get (g.W.World.names w) c.args.item) view g.R.Meaning.ItemMeaning.item c.in-Kept.entry c.args.progress.now _ m _ _ c.in_ok-outcome-in-Kept.outcome c.name.result.now _ (c.in_ok-outcome-in-Kept.ensures ∙ c.outcome.ensures) c.name.ensures.name had c.add.ensures)

pub returns-in-New-clause-turn : goal.returns-in-New-clause-turn
returns-in-New-clause-turn g c =
    let w = c.args.world.now in
    let known = slice_get c.args.progress.now.outs in
    let view = g.W.World.sight w c.args.item known in
    let n = c.name-name.result.now in
    let m = c.args.noted.now.entries in
    let had = noted_settled (slice_get (g.W.World.names w) c.args.item) n c.name-name.ensures view m c.entry.result c.checked-checked.result c.with_check-found.result
    (c.entry.ensures.found ∙ ap (λ (x : EntriesAndWorld g.row.W.Denot). get x.entries n) c.checked-checked.ensures.same)
    (subst (λ v. c.checked-checked.result ≡ option_map (λ e. first_other e.reads (g.W.World.sight v c.args.item known)) (get m n)) c.requires.world c.checked-checked.ensures.found)
    c.with_check-found.ensures {M = g.row.R-Meaning.Denot} g.R.Meaning.ItemMeaning.item (settled.New c.in-New.entry c.in-New.why) c.args.tally.now c.settle.new.tally c.in-New.ensures.settled in
    new_turn (slice_get (g.W.World.names w) c.args.item) view g.R.Meaning.ItemMeaning.item c.in-New.entry c.args.progress.now _ m _ _ c.in-New.why _ _ had
    (subst (λ (x : EntriesAndWorld g.row.W.Denot). IsAddedNew c.in-New.entry c.in-New.why c.add_new.result c.args.progress.now c.add_new.new.progress x.entries c.add_new.new.noted.entries) c.checked-checked.ensures.same c.add_new.ensures.added)

pub unreachable-requires : goal.unreachable-requires
unreachable-requires g c =
    let w = c.args.world.now in
    let known = slice_get c.args.progress.now.outs in
    let view = g.W.World.sight w c.args.item known in
    let n = c.name-name.result.now in
    let m = c.args.noted.now.entries in
    let had = noted_settled (slice_get (g.W.World.names w) c.args.item) n c.name-name.ensures view m c.entry.result c.checked-checked.result c.with_check-found.result
    (c.entry.ensures.found ∙ ap (λ (x : EntriesAndWorld g.row.W.Denot). get x.entries n) c.checked-checked.ensures.same)
    (subst (λ v. c.checked-checked.result ≡ option_map (λ e. first_other e.reads (g.W.World.sight v c.args.item known)) (get m n)) c.requires.world c.checked-checked.ensures.found)
    c.with_check-found.ensures {M = g.row.R-Meaning.Denot} g.R.Meaning.ItemMeaning.item (settled.Needs c.in-Needs.field-0) c.args.tally.now c.settle.new.tally c.in-Needs.ensures.settled in
    never_waits (g.W.World.names w) c.args.item c.requires.item view g.R.Meaning.ItemMeaning.item m _ _ _ (misses-nothing (g.W.World.sight w) (g.met.W.World.lawful w) c.args.item known c.requires.done) had
