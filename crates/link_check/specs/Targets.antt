-- Where a link leads. After RFC 3986, sections 2.1 (percent-encoding), 3.1 (schemes), 4.2 (relative references) and 5.2.4 (dot segments), for a server that answers a folder by its `index.html`.
use Rattle.std.specs.Prelude.{Bool, List, None, Option, Some, [], codes, drop, if◌then◌else◌, length, not, option_map, reverse, take, true, ℕ, ◌&&◌, ◌*◌, ◌++◌, ◌+◌, ◌-◌, ◌==◌, ◌||◌, ◌∷◌}
use Rattle.std.specs.List.{suffix_len}
use Rattle.std.specs.Str.{bytes_eq, is_utf8}
use Rattle.site_base.specs.Path.{is_dots, path_refusal, segments}
use Rattle.site_base.specs.Recursion.{down}
use Rattle.site_text.specs.Bytes.{between, colon, is_alnum, is_hex, is_letter, is_one_of, lower, percent_sign, slash}
use Rattle.site_text.specs.Fronts.{begins_with, first_byte, run_len}
use Rattle.link_check.specs.declared.leading.LinkTarget.{LinkTarget}
use Rattle.link_check.specs.declared.leading.LinkTarget.TheVariants.{Bad, Outside, Path}

-- how many bytes stand for the first byte
abbrev pub first_len : List ℕ → ℕ
first_len t = if begins_with (codes "&amp;") t then 5 else 1

abbrev pub plain_step : (List ℕ → List ℕ) → List ℕ → List ℕ
plain_step plain [] = []
plain_step plain (c ∷ cs) = c ∷ plain (drop (first_len (c ∷ cs)) (c ∷ cs))

-- `&` for each `&amp;`, from the left
unfoldable pub plain : List ℕ → List ℕ
plain t = down length [] plain_step t

-- a letter, then letters, digits, `+`, `.` and `-`, and a colon
abbrev pub has_scheme : List ℕ → Bool
has_scheme t = is_letter (first_byte t) && (first_byte (drop (run_len (λ c. is_alnum c || is_one_of (codes "+.-") c) t) t) == colon)

-- of another host, or of a scheme
abbrev pub is_foreign : List ℕ → Bool
is_foreign t = begins_with (codes "//") t || has_scheme t

abbrev pub is_of_path : ℕ → Bool
is_of_path c = not (is_one_of (codes "?#") c)

-- what stands before the first `?` or `#`
abbrev pub without_query : List ℕ → List ℕ
without_query t = take (run_len is_of_path t) t

abbrev pub hex_value : ℕ → ℕ
hex_value c = if between 48 57 c then c - 48 else lower c - 87

-- the byte that two digits of base 16 stand for
abbrev pub both_digits : ℕ → ℕ → Option ℕ
both_digits high low = if is_hex high && is_hex low then Some (16 * hex_value high + hex_value low) else None

abbrev pub hex_pair : List ℕ → Option ℕ
hex_pair t = both_digits (first_byte t) (first_byte (drop 1 t))

abbrev pub onto : ℕ → Option (List ℕ) → Option (List ℕ)
onto c made = option_map (λ cs. c ∷ cs) made

abbrev pub decoded_step : (List ℕ → Option (List ℕ)) → List ℕ → Option (List ℕ)
decoded_step decoded [] = Some []
decoded_step decoded (c ∷ cs) = if c == percent_sign then elim (hex_pair cs) [ Some byte ↦ onto byte (decoded (drop 2 cs)) | None ↦ None ] else onto c (decoded cs)

-- a byte for each `%` with two digits after it, or none where a `%` has not got them
unfoldable pub decoded : List ℕ → Option (List ℕ)
decoded t = down length None decoded_step t

abbrev pub is_of_name : ℕ → Bool
is_of_name c = not (c == slash)

-- a path up to its last `/`, and with it
abbrev pub folder_of : List ℕ → List ℕ
folder_of path = take (length path - suffix_len is_of_name path) path

-- a path below the base, without it; nothing outside of the base
abbrev pub below : List ℕ → List ℕ → Option (List ℕ)
below base t = if bytes_eq t base || begins_with (base ++ slash ∷ []) t then Some (drop (length base) t) else None

-- the segments that are left, the last one first: `..` drops the one before it, and there is none above the root
abbrev pub resolved : List (List ℕ) → List (List ℕ) → Option (List (List ℕ))
resolved kept [] = Some kept
resolved kept (s ∷ rest) =
    if (length s == 0) || bytes_eq s (codes ".") then resolved kept rest
    else if bytes_eq s (codes "..") then elim kept [ above ∷ others ↦ resolved others rest | [] ↦ None ]
    else resolved (s ∷ kept) rest

-- segments with `/` between them
abbrev pub with_slashes : List (List ℕ) → List ℕ
with_slashes [] = []
with_slashes (s ∷ []) = s
with_slashes (s ∷ t ∷ rest) = s ++ (slash ∷ with_slashes (t ∷ rest))

-- whether the last segment names a folder: it is empty, `.` or `..`
abbrev pub names_folder : List (List ℕ) → Bool
names_folder [] = true
names_folder (s ∷ []) = (length s == 0) || is_dots s
names_folder (s ∷ t ∷ rest) = names_folder (t ∷ rest)

-- a file, or the index of a folder
abbrev pub file_of : (is_folder : Bool) → (reversed : List (List ℕ)) → List ℕ
file_of is_folder [] = codes "index.html"
file_of is_folder (s ∷ rest) = with_slashes (reverse (if is_folder then codes "index.html" ∷ s ∷ rest else s ∷ rest))

abbrev pub path_or_bad : List ℕ → LinkTarget
path_or_bad text = elim (path_refusal text) [ Some refusal ↦ Bad | None ↦ Path text ]

-- a file by the segments that are left, if there are
abbrev pub file_or_bad : (is_folder : Bool) → (reversed : Option (List (List ℕ))) → LinkTarget
file_or_bad is_folder (Some reversed) = path_or_bad (file_of is_folder reversed)
file_or_bad is_folder None = Bad

-- where a path leads that begins at the root
abbrev pub at_root : List ℕ → LinkTarget
at_root t = file_or_bad (names_folder (segments t)) (resolved [] (segments t))

-- where a path leads of which this is below the base, if it is
abbrev pub inside : Option (List ℕ) → LinkTarget
inside (Some t) = at_root t
inside None = Outside

-- where the path of a link leads, from a file, on a site below this base
abbrev pub placed : List ℕ → List ℕ → List ℕ → LinkTarget
placed from base t =
    if length t == 0 then Path from
    else if begins_with (slash ∷ []) t then inside (below base t)
    else at_root (folder_of from ++ t)

abbrev pub decoded_target : List ℕ → List ℕ → Option (List ℕ) → LinkTarget
decoded_target from base None = Bad
decoded_target from base (Some t) = if is_utf8 t then placed from base t else Bad

-- where a value leads whose references to `&` were read
abbrev pub plain_target : List ℕ → List ℕ → List ℕ → LinkTarget
plain_target from base value = if is_foreign value then Outside else decoded_target from base (decoded (without_query value))

-- where a value leads that stands in a file
abbrev pub target : (from value base : List ℕ) → LinkTarget
target from value base = plain_target from base (plain value)
