-- The numbers of faults, as replies print them.
use Rattle.std.specs.Prelude.{ℕ, List}
use Rattle.site_base.specs.declared.faults.YamlKind.{YamlKind}
use Rattle.site_base.specs.declared.faults.YamlKind.TheVariants.{Tab, Indent, Quote, Flow, Outside, Number, NoKey, Depth, NotMapping}
use Rattle.site_base.specs.declared.faults.FaultKind.{FaultKind}
use Rattle.site_base.specs.declared.faults.FaultKind.TheVariants.{TooManyFiles, FileTooLong, SiteTooLong, NotUtf8, Yaml, Config, BadDate, Data, PathClash, LiquidSyntax, UnknownTag, IncludeMissing, LinkMissing, FilterArgument, DividedByZero, Overflow, Fraction, Nesting, RangeTooLong, OutputTooLong, TreeTooLong, DateFormat, Unlike, Undefined, UnknownFilter}
use Rattle.site_base.specs.declared.faults.SiteFault.{SiteFault}

abbrev pub yaml_number : YamlKind → ℕ
yaml_number Tab = 1
yaml_number Indent = 2
yaml_number Quote = 3
yaml_number Flow = 4
yaml_number Outside = 5
yaml_number Number = 6
yaml_number NoKey = 7
yaml_number Depth = 8
yaml_number NotMapping = 9

abbrev pub fault_number : FaultKind → ℕ
fault_number TooManyFiles = 1
fault_number FileTooLong = 2
fault_number SiteTooLong = 3
fault_number NotUtf8 = 4
fault_number (Yaml kind) = 5
fault_number Config = 6
fault_number BadDate = 7
fault_number Data = 8
fault_number PathClash = 9
fault_number LiquidSyntax = 10
fault_number UnknownTag = 11
fault_number IncludeMissing = 12
fault_number LinkMissing = 13
fault_number FilterArgument = 14
fault_number DividedByZero = 15
fault_number Overflow = 16
fault_number Fraction = 17
fault_number Nesting = 18
fault_number RangeTooLong = 19
fault_number OutputTooLong = 20
fault_number TreeTooLong = 21
fault_number DateFormat = 22
fault_number Unlike = 23
fault_number Undefined = 24
fault_number UnknownFilter = 25

-- a fault of a file as a whole
abbrev pub fault_at : FaultKind → List ℕ → SiteFault
fault_at kind path = record { path = path; line = 0; kind = kind }
