-- Autolinks: CommonMark 0.31.2, section 6.5.
use Rattle.std.specs.Prelude.{None, Some, codes, drop, if◌then◌else◌, nat_le, not, ◌&&◌, ◌-◌, ◌==◌, ◌||◌}
use Rattle.site_text.specs.Bytes.{hyphen, is_alnum, is_control, is_letter, is_one_of, space}
use Rattle.site_text.specs.Fronts.{first_byte, run_len}
use Rattle.markdown_grammar.specs.Readers.{Reader, at_least, exactly, one_byte, repeat, ◌then◌}

-- a letter and one to 31 letters, digits, `+`, `.` or `-`
abbrev pub scheme : Reader
scheme t = elim ((one_byte is_letter then at_least 1 (λ c. is_alnum c || is_one_of (codes "+.-") c)) t) [ Some n ↦ (if nat_le n 32 then Some n else None) | None ↦ None ]

-- a scheme, `:`, and anything but white space, controls, `<` and `>`
abbrev pub uri : Reader
uri = scheme then exactly (codes ":") then at_least 0 (λ c. not ((c == space) || (is_control c || is_one_of (codes "<>") c)))

-- from 1 to 63 letters, digits and hyphens, with no hyphen at an end
abbrev pub host_part : Reader
host_part t =
    let n = run_len (λ c. is_alnum c || (c == hyphen)) t in
    if (nat_le 1 n && nat_le n 63) && (is_alnum (first_byte t) && is_alnum (first_byte (drop (n - 1) t))) then Some n else None

-- a mail address
abbrev pub email : Reader
email = at_least 1 (λ c. is_alnum c || is_one_of (codes ".!#$%&'*+/=?^_`{|}~-") c) then exactly (codes "@") then host_part then repeat (exactly (codes ".") then host_part)

-- between `<` and `>`
abbrev pub pointed : Reader → Reader
pointed r = exactly (codes "<") then r then exactly (codes ">")
