use Rattle.site_reader.proofs.PlacementLaws.{placed_by}
use Rattle.site_reader.proofs.renewal.renewed_file.Goals as goal

pub same_bytes-requires-clause-placed : goal.same_bytes-requires-clause-placed
same_bytes-requires-clause-placed g c = λ is_current.
    placed_by c.args.rules.now.told c.args.old.now c.args.path.now c.in-Some.file.now (c.requires.current is_current) c.in-Some.ensures.placed
