use Rattle.data_files.proofs.RecordLaws.{none_is, table_is}
use Rattle.data_files.proofs.tables.read_table.Goals as goal

pub returns-in-Ok : goal.returns-in-Ok
returns-in-Ok c = table_is c.args.separator c.args.text.now _ c.in-Ok.ensures

pub returns-in-Err : goal.returns-in-Err
returns-in-Err c = none_is c.in-Err.error c.args.separator c.args.text.now c.in-Err.ensures
