use Rattle.std.proofs.Common.{length}
use Rattle.site_reader.proofs.data.+put_value.Given as goal

abbrev pub decreases-put_value : goal.decreases-put_value
decreases-put_value l = length l.names.now
