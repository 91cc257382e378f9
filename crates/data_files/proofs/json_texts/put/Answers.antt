use Rattle.std.proofs.Common.{◌∙◌, ap}
use Rattle.data_files.specs.Readings.{seen}
use Rattle.data_files.proofs.MemberLaws.{seen-insert_entry}
use Rattle.data_files.proofs.json_texts.put.Goals as goal

pub returns-in-Ok : goal.returns-in-Ok
returns-in-Ok c = ap seen c.in-Ok.ensures.entries ∙ seen-insert_entry c.args.found.now.entries c.args.key c.args.member
