use Rattle.std.proofs.Common.{◌≡◌, slice_get, sym, subst, ap, ◌∙◌, Some}
use Rattle.std.specs.Map.{keys_of}
use Rattle.read_record.specs.Entries.{Kept}
use Rattle.read_record.specs.KeptPlaces.{entry_at, HasReads}
use Rattle.read_record.specs.Stores.{Numbers, Has}
use Rattle.read_record.proofs.StoreLaws.{has_at, key-resolved}
use Rattle.read_record.proofs.kept_entry.KeptEntry.key_at.Goals as goal

pub key-requires : goal.key-requires
key-requires g c =
    let reads = c.in-Numbered.entry.now.reads in
    let has : Has c.in-Numbered.store.now reads = subst HasReads c.in-Numbered.is c.self.invariant.0 in
    let at : slice_get reads c.args.place ≡ Some c.at.result.now = subst (λ (ns : Numbers). slice_get ns c.args.place ≡ Some c.at.result.now) c.reads-in-Numbered.ensures c.at.ensures in
    (has_at c.in-Numbered.store.now reads c.args.place c.at.result.now has at).0

pub returns-in-Numbered : goal.returns-in-Numbered
returns-in-Numbered g c =
    let reads = c.in-Numbered.entry.now.reads in
    let at : slice_get reads c.args.place ≡ Some c.at.result.now = subst (λ (ns : Numbers). slice_get ns c.args.place ≡ Some c.at.result.now) c.reads-in-Numbered.ensures c.at.ensures in
    ap (λ (k : Kept). slice_get (keys_of k.reads) c.args.place) (sym c.self.view_is ∙ ap entry_at c.in-Numbered.is)
    ∙ key-resolved c.in-Numbered.store.now reads c.args.place c.at.result.now at
    ∙ ap Some (sym c.key.ensures)
