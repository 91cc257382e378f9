use Rattle.data_files.specs.Formats.{format}
use Rattle.site_reader.proofs.DataLaws.{value_read}
use Rattle.site_reader.proofs.data.read_data_text.Goals as goal

pub returns-in-Ok : goal.returns-in-Ok
returns-in-Ok c = value_read (format c.args.path.now) c.args.text.now c.in-Ok.value c.in-Ok.ensures
