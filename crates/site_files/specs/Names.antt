-- The names of files: the last segment of a path, and its extension.
use Rattle.std.specs.Prelude.{ℕ, ◌==◌, Bool, List, drop, length, if◌then◌else◌}
use Rattle.std.specs.List.{before_last, after_last}

abbrev pub is_slash : ℕ → Bool
is_slash b = b == 47

abbrev pub is_dot : ℕ → Bool
is_dot b = b == 46

-- the name of a file: what stands behind the last `/` of its path
abbrev pub file_name : List ℕ → List ℕ
file_name path = after_last is_slash path

-- the folder of a file: what stands before the last `/`, and nothing at the root
abbrev pub folder : List ℕ → List ℕ
folder path = before_last is_slash path

-- a name without its extension: what stands before its last `.`, unless the name begins with that
abbrev pub stem : List ℕ → List ℕ
stem name = let before = before_last is_dot name in if length before == 0 then name else before

-- the extension of a name, with its `.`; nothing where it has none
abbrev pub extension : List ℕ → List ℕ
extension name = drop (length (stem name)) name
