-- Which files a site takes: hidden names, and the entries of `include` and `exclude`, after Jekyll 4's manual, "Configuration Options". Entries are paths, not globs, which is this project's own.
use Rattle.std.specs.Prelude.{ℕ, ◌-◌, ◌==◌, nat_eq, Bool, false, not, ◌&&◌, ◌||◌, List, [], ◌∷◌, length, take, codes, if◌then◌else◌}
use Rattle.std.specs.List.{list_any, ends_with}
use Rattle.std.specs.Str.{bytes_eq}
use Rattle.site_base.specs.Path.{segments}
use Rattle.site_base.specs.Clash.{is_below}
use Rattle.site_files.specs.Names.{is_slash}

-- the bytes that hide a segment: `_`, `.`, `#` and `~`
abbrev pub hides : ℕ → Bool
hides b = (b == 95) || (b == 46) || (b == 35) || (b == 126)

abbrev pub begins_hidden : List ℕ → Bool
begins_hidden [] = false
begins_hidden (b ∷ rest) = hides b

-- a segment that starts with one of these, or ends with `~`
abbrev pub is_hidden : List ℕ → Bool
is_hidden segment = begins_hidden segment || ends_with nat_eq segment (codes "~")

-- the path is the entry, or lies below it
abbrev pub covers : List ℕ → List ℕ → Bool
covers path entry = bytes_eq path entry || is_below path entry

-- an entry without one `/` at its end
abbrev pub without_slash : List ℕ → List ℕ
without_slash entry = if ends_with nat_eq entry (codes "/") then take (length entry - 1) entry else entry

-- an entry of `exclude` takes out its path and all below it
abbrev pub takes_out : List ℕ → List ℕ → Bool
takes_out path entry = covers path (without_slash entry)

-- an entry of `include` without `/` is also a name, wherever it stands in the path
abbrev pub names_segment : List ℕ → List ℕ → Bool
names_segment path entry = not (list_any is_slash entry) && list_any (bytes_eq entry) (segments path)

-- an entry of `include` brings in its path and all below it
abbrev pub brings_in : List ℕ → List ℕ → Bool
brings_in path entry = covers path entry || names_segment path entry

abbrev pub is_brought_in : List (List ℕ) → List ℕ → Bool
is_brought_in include path = list_any (brings_in path) include

abbrev pub is_taken_out : List (List ℕ) → List ℕ → Bool
is_taken_out exclude path = list_any (takes_out path) exclude
