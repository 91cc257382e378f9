use Rattle.std.proofs.Common.{◌≡◌, Some, option_map, sym, ap, ◌∙◌}
use Rattle.std.specs.FinMap.{get}
use Rattle.read_record.specs.Entries.{Kept}
use Rattle.read_record.specs.Numbered.{entry_in}
use Rattle.read_record.specs.Records.{first_other}
use Rattle.read_record.specs.Stores.{resolved}
use Rattle.memo_table.specs.Stored.{as_entries}
use Rattle.memo_table.proofs.PlaceLaws.{stands-within}
use Rattle.memo_table.proofs.StoredLaws.{found-at, get-resolved}
use Rattle.memo_table.proofs.lent.checked_in.Goals as goal

pub index-entry-requires : goal.index-entry-requires
index-entry-requires g c = stands-within c.args.entries.now.entries c.args.name.now c.in-Some.place c.in-Some.ensures

pub numbered-requires-clause-certified : goal.numbered-requires-clause-certified
numbered-requires-clause-certified g c =
    let store = c.args.store.now in
    c.requires.lent.certified c.args.name.now (entry_in store c.index-entry.result.now)
    (found-at store c.args.entries.now.entries c.args.name.now c.in-Some.place c.index-entry.result.now c.in-Some.ensures c.index-entry.ensures)

pub returns-in-Some-clause-found : goal.returns-in-Some-clause-found
returns-in-Some-clause-found g c =
    let store = c.args.store.now in
    let known = g.F.Finished.outcomes c.args.outs.now in
    let found = found-at store c.args.entries.now.entries c.args.name.now c.in-Some.place c.index-entry.result.now c.in-Some.ensures c.index-entry.ensures in (
      found ∙ ap Some (sym c.numbered.ensures),
      c.check_noted-checked.ensures.first
          ∙ ap (λ rs. first_other (resolved store rs) (g.W.World.sight c.args.world.now c.args.reader known)) c.reads.ensures
          ∙ (λ i. first_other (sym c.numbered.ensures i).reads (g.W.World.sight c.args.world.now c.args.reader known)),
    )

pub returns-in-Some-clause-named : goal.returns-in-Some-clause-named
returns-in-Some-clause-named g c =
    let store = c.args.store.now in
    let es = c.args.entries.now.entries in
    let kept = entry_in store c.index-entry.result.now in
    let found : get (as_entries store es) c.args.name.now ≡ Some kept = found-at store es c.args.name.now c.in-Some.place c.index-entry.result.now c.in-Some.ensures c.index-entry.ensures in
    let own : c.numbered.result.name ≡ kept.name = ap (λ (k : Kept). k.name) c.numbered.ensures in
    own ∙ c.requires.lent.named c.args.name.now kept found

pub returns-in-None-clause-found : goal.returns-in-None-clause-found
returns-in-None-clause-found g c = get-resolved c.args.store.now c.args.entries.now.entries c.args.name.now ∙ ap (option_map (entry_in c.args.store.now)) c.in-None.ensures
