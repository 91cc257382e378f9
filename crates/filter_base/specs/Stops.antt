-- Why a filter gives no value.
use Rattle.site_base.specs.declared.faults.FaultKind.{FaultKind}
use Rattle.read_record.specs.declared.stop.Stop as any

abbrev pub Stop : Type 0
Stop = any.Stop FaultKind
