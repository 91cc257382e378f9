use Rattle.site_reader.proofs.EachLaws.{first_told}
use Rattle.site_reader.proofs.layouts.read_layout.Goals as goal

pub returns-in-Err : goal.returns-in-Err
returns-in-Err c = first_told _ _ c.args.path.now c.in-Err.error c.error_at.result c.in-Err.ensures c.error_at.ensures
