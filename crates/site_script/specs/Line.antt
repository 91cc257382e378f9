-- The numbers of lines and of the kinds of bad lines.
use Rattle.std.specs.Prelude.{◌≡◌, ℕ, ◌+◌, ◌-◌, ◌^◌, min, Bool, true, false, nat_le, ℤ, pos, negsuc}
use Rattle.site_base.specs.Limits.{last_moment}
use Rattle.site_script.specs.declared.head.Head.{Head}
use Rattle.site_script.specs.declared.head.Head.TheVariants as head
use Rattle.site_script.specs.declared.line.Line.{Line}
use Rattle.site_script.specs.declared.line.Line.TheVariants.{Scan, Put, Delete, Time, Build, Links, End, Eof, Bad, Failed, Memory}
use Rattle.site_script.specs.declared.line.ScriptKind.{ScriptKind}
use Rattle.site_script.specs.declared.line.ScriptKind.TheVariants as kind

abbrev pub script_number : ScriptKind → ℕ
script_number kind.LongLine = 1
script_number kind.NotText = 2
script_number kind.Unknown = 3
script_number kind.Path = 4
script_number kind.Length = 5
script_number kind.Cut = 6
script_number kind.Limit = 7
script_number kind.Clash = 8
script_number kind.Seconds = 9

-- after so many lines the next line has this number, a u64 that stays at its last value
abbrev pub line_number : ℕ → ℕ
line_number before = min (before + 1) (2 ^ 64 - 1)

-- after it no line comes
abbrev pub ends : Line → Bool
ends End = true
ends Eof = true
ends (Bad number kind) = true
ends Failed = true
ends Memory = true
ends Scan = false
ends (Put path bytes) = false
ends (Delete path) = false
ends (Time seconds) = false
ends Build = false
ends Links = false

-- from the first second of 1970 to the last of the year 9999 that every offset can name
abbrev pub is_moment : ℤ → Bool
is_moment (pos seconds) = nat_le seconds last_moment
is_moment (negsuc n) = false

-- a line that sets the moment sets one of these
abbrev pub IsInTime : Line → Type 0
IsInTime (Time seconds) = is_moment seconds ≡ true
IsInTime End = Unit {0}
IsInTime Eof = Unit {0}
IsInTime (Bad number kind) = Unit {0}
IsInTime Failed = Unit {0}
IsInTime Memory = Unit {0}
IsInTime Scan = Unit {0}
IsInTime (Put path bytes) = Unit {0}
IsInTime (Delete path) = Unit {0}
IsInTime Build = Unit {0}
IsInTime Links = Unit {0}

-- the same of a line's content
abbrev pub HasTime : Head → Type 0
HasTime (head.Time seconds) = is_moment seconds ≡ true
HasTime head.Scan = Unit {0}
HasTime head.Build = Unit {0}
HasTime head.Links = Unit {0}
HasTime head.End = Unit {0}
HasTime (head.Put path count) = Unit {0}
HasTime (head.Delete path) = Unit {0}
HasTime (head.Bad kind) = Unit {0}
