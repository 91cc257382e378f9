use Rattle.std.proofs.Common.{◌≡◌, sym, subst, ap, ◌∙◌}
use Rattle.read_record.specs.Entries.{Kept}
use Rattle.read_record.specs.KeptPlaces.{entry_at}
use Rattle.read_record.specs.Queries.{Reads}
use Rattle.read_record.specs.Records.{Certifies}
use Rattle.read_record.specs.Stores.{resolved}
use Rattle.read_record.proofs.kept_entry.KeptEntry.check.Goals as goal

pub returns-in-Whole-clause-carries : goal.returns-in-Whole-clause-carries
returns-in-Whole-clause-carries g c h query met certified =
    let same : c.args.self.now.reads ≡ c.reads.result.now = ap (λ (k : Kept). k.reads) (sym c.self.view_is ∙ ap entry_at c.in-Whole.is) ∙ sym c.reads.ensures in
    c.check.ensures.carries h query met (subst (λ (rs : Reads). Certifies rs query met) same certified)

pub returns-in-Numbered-clause-carries : goal.returns-in-Numbered-clause-carries
returns-in-Numbered-clause-carries g c h query met certified =
    let store = c.in-Numbered.store.now in
    let same : c.args.self.now.reads ≡ resolved store c.reads-in-Numbered.result.now =
    ap (λ (k : Kept). k.reads) (sym c.self.view_is ∙ ap entry_at c.in-Numbered.is) ∙ ap (resolved store) (sym c.reads-in-Numbered.ensures)
    in
    c.check_numbers.ensures.carries h query met (subst (λ (rs : Reads). Certifies rs query met) same certified)
