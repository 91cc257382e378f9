-- Which lines belong to a value, and which start the entries of a block: YAML 1.2.2, sections 6.1 and 8.2.
use Rattle.std.specs.Prelude.{ℕ, ◌==◌, Bool, ◌&&◌, ◌||◌, not, List, nat_le, if◌then◌else◌}
use Rattle.front_yaml.specs.Bytes.{starts}
use Rattle.front_yaml.specs.TextLines.{Line, indent, inside, is_blank, carries}
use Rattle.front_yaml.specs.Keys.{is_dash}

abbrev pub is_idle : Line → Bool
is_idle l = not (carries l)

-- lines of indent f at least, and blank ones
abbrev pub reaches : ℕ → Line → Bool
reaches f l = is_blank l || nat_le f (indent l)

-- besides, comments
abbrev pub belongs : ℕ → Line → Bool
belongs f l = not (carries l) || nat_le f (indent l)

-- the lines that may go on a scalar or flow value s
abbrev pub taken_by : ℕ → List ℕ → (Line → Bool)
taken_by f s = if starts 39 s || starts 34 s then reaches f else belongs f

abbrev pub is_item : ℕ → Line → Bool
is_item n l = carries l && nat_le (indent l) n

-- in a mapping, items of a sequence at its own indent belong to the entry before
abbrev pub is_pair : ℕ → Line → Bool
is_pair n l = carries l && nat_le (indent l) n && not ((indent l == n) && is_dash (inside l))
