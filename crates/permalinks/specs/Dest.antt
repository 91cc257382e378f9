-- Where the output of a URL stands: Jekyll 4's manual, "Permalinks".
use Rattle.std.specs.Prelude.{◌≡◌, ◌⊎◌, ◌==◌, nat_eq, ℕ, List, [], ◌∷◌, ◌++◌, codes, IsSome, if◌then◌else◌}
use Rattle.std.specs.List.{ends_with}
use Rattle.site_base.specs.Path.{path_refusal}
use Rattle.permalinks.specs.declared.template.UrlError.{UrlError}
use Rattle.permalinks.specs.declared.template.UrlError.TheVariants.{BadPath, Memory}

-- without a `/` at its front
abbrev pub relative : List ℕ → List ℕ
relative [] = []
relative (b ∷ url) = if b == 47 then url else b ∷ url

-- what the URL lacks as a file's path: `index` and the extension where it names a folder, else an extension that it does not end with
abbrev pub missing_end : List ℕ → List ℕ → List ℕ
missing_end url output_ext =
    if ends_with nat_eq url (codes "/") then codes "index" ++ output_ext
    else if ends_with nat_eq url output_ext then []
    else output_ext

abbrev pub dest : List ℕ → List ℕ → List ℕ
dest url output_ext = relative url ++ missing_end url output_ext

-- memory aside, only a text that is no path of a site is refused
abbrev pub IsNoPath : List ℕ → UrlError → Type 0
IsNoPath text error = (error ≡ Memory) ⊎ ((error ≡ BadPath) × IsSome (path_refusal text))
