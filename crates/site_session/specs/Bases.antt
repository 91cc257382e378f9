-- The base of a site's addresses: what stands before each of its paths.
use Rattle.std.specs.Prelude.{List, [], if◌then◌else◌, reverse, ℕ, ◌==◌, ◌∷◌}
use Rattle.site_text.specs.Bytes.{slash}

-- without `/` at the front
abbrev pub past_slashes : List ℕ → List ℕ
past_slashes [] = []
past_slashes (c ∷ cs) = if c == slash then past_slashes cs else c ∷ cs

-- without `/` at the end
abbrev pub before_slashes : List ℕ → List ℕ
before_slashes text = reverse (past_slashes (reverse text))

-- with one `/` in front, where anything is left
abbrev pub behind_slash : List ℕ → List ℕ
behind_slash [] = []
behind_slash (c ∷ cs) = slash ∷ c ∷ cs

-- the base of a site's addresses, by its `baseurl`
abbrev pub base_of : (baseurl : List ℕ) → List ℕ
base_of baseurl = behind_slash (before_slashes (past_slashes baseurl))
