use Rattle.std.proofs.Common.{Some, option_map, sym, ap, ◌∙◌}
use Rattle.std.specs.FinMap.{get}
use Rattle.read_record.specs.Entries.{Kept}
use Rattle.read_record.specs.Numbered.{entry_in}
use Rattle.memo_table.proofs.StoredLaws.{found-at, get-resolved, has_entry}
use Rattle.memo_table.proofs.noted.NotedMemo.entry.Goals as goal

pub numbered-requires-clause-held : goal.numbered-requires-clause-held
numbered-requires-clause-held g c = has_entry c.self.inside.store c.self.inside.entries.entries c.self.inside.replaced.items c.self.invariant.0.just c.in-Some.place c.index.result.now c.index.ensures

pub numbered-requires-clause-certified : goal.numbered-requires-clause-certified
numbered-requires-clause-certified g c =
    let store = c.self.inside.store in
    c.self.invariant.0.certified c.args.name.now (entry_in store c.index.result.now) (found-at store c.self.inside.entries.entries c.args.name.now c.in-Some.place c.index.result.now c.in-Some.ensures c.index.ensures)

pub returns-in-Some-clause-found : goal.returns-in-Some-clause-found
returns-in-Some-clause-found g c =
    let store = c.self.inside.store in
    ap Some c.numbered.ensures
    ∙ sym (found-at store c.self.inside.entries.entries c.args.name.now c.in-Some.place c.index.result.now c.in-Some.ensures c.index.ensures)
    ∙ ap (λ m. get m.entries c.args.name.now) c.self.view_is

pub returns-in-Some-clause-named : goal.returns-in-Some-clause-named
returns-in-Some-clause-named g c =
    let store = c.self.inside.store in
    ap (λ (k : Kept). k.name) c.numbered.ensures
    ∙ c.self.invariant.0.named c.args.name.now (entry_in store c.index.result.now) (found-at store c.self.inside.entries.entries c.args.name.now c.in-Some.place c.index.result.now c.in-Some.ensures c.index.ensures)

pub returns-in-None-clause-found : goal.returns-in-None-clause-found
returns-in-None-clause-found g c =
    sym (get-resolved c.self.inside.store c.self.inside.entries.entries c.args.name.now ∙ ap (option_map (entry_in c.self.inside.store)) c.in-None.ensures) ∙ ap (λ m. get m.entries c.args.name.now) c.self.view_is
