-- What a scan ends with at a file that could not be read.
use Rattle.site_base.specs.declared.errors.ReadError.{ReadError}
use Rattle.site_base.specs.declared.errors.ReadError.TheVariants as read_error
use Rattle.source_tree.specs.declared.scan_error.ScanError.{ScanError}
use Rattle.source_tree.specs.declared.scan_error.ScanError.TheVariants as scan_error

abbrev pub unread : ReadError → ScanError
unread read_error.Failed = scan_error.Failed
unread read_error.Memory = scan_error.Memory
