-- The forms that the values of a configuration have, and what stands for one that is absent.
use Rattle.std.specs.Prelude.{ℕ, pos, ◌==◌, nat_eq, nat_le, Bool, true, false, not, ◌&&◌, ◌||◌, List, [], ◌∷◌, length, codes, Option, Some, None, is_some, unwrap_or}
use Rattle.std.specs.Borrow.{Bor}
use Rattle.std.specs.List.{list_all, list_any, prefix_len, starts_with}
use Rattle.std.specs.Str.{bytes_eq}
use Rattle.site_base.specs.Plain.{Plain, nil, bool, int, text, list, hash, Items, item_list, Pairs, no_pairs, pair, get}
use Rattle.site_base.specs.View.{plain}
use Rattle.site_base.specs.declared.value.Value.{Value}
use Rattle.site_dates.specs.Offset.{read_offset}
use Rattle.site_text.specs.Bytes.{is_name_byte}
use Rattle.site_config.specs.declared.form.Form.{Form}
use Rattle.site_config.specs.declared.form.Form.TheVariants as form

-- a value where there is one, and else nil
abbrev pub given : Option (Bor Value) → Plain
given None = nil
given (Some v) = plain v.now

-- the value of the key in a hash, or nil where it has none or the value is no hash
abbrev pub setting : List ℕ → Plain → Plain
setting key (hash ps) = unwrap_or (get key ps) nil
setting key v = nil

abbrev pub is_text : Plain → Bool
is_text (text s) = true
is_text v = false

abbrev pub are_texts : Items → Bool
are_texts is = list_all is_text (item_list is)

-- one byte or more, each an ASCII letter, a digit, `-` or `_`
abbrev pub is_name : List ℕ → Bool
is_name s = not (length s == 0) && (prefix_len is_name_byte s == length s)

-- a text that is the name of a collection
abbrev pub is_name_text : Plain → Bool
is_name_text (text s) = is_name s
is_name_text v = false

abbrev pub are_names : Items → Bool
are_names is = list_all is_name_text (item_list is)

abbrev pub is_flag : Plain → Bool
is_flag nil = true
is_flag (bool b) = true
is_flag v = false

abbrev pub is_optional_text : Plain → Bool
is_optional_text nil = true
is_optional_text (text s) = true
is_optional_text v = false

abbrev pub are_optional_texts : Plain → Bool
are_optional_texts nil = true
are_optional_texts (list is) = are_texts is
are_optional_texts v = false

-- what stands behind the name of a collection: nothing, or a hash with `output` and `permalink`
abbrev pub is_collection : Plain → Bool
is_collection nil = true
is_collection (hash ps) = is_flag (setting (codes "output") (hash ps)) && is_optional_text (setting (codes "permalink") (hash ps))
is_collection v = false

-- the pairs of a hash as a list
abbrev pub pair_list : Pairs → List (List ℕ × Plain)
pair_list no_pairs = []
pair_list (pair k v ps) = (k, v) ∷ pair_list ps

-- `order` and `sort_by` have their forms, which only collections other than the posts ask
abbrev pub is_sorted : Plain → Bool
is_sorted v = are_optional_texts (setting (codes "order") v) && is_optional_text (setting (codes "sort_by") v)

abbrev pub is_named_collection : List ℕ × Plain → Bool
is_named_collection p = is_name p.0 && is_collection p.1 && (bytes_eq p.0 (codes "posts") || is_sorted p.1)

abbrev pub are_collections : Pairs → Bool
are_collections ps = list_all is_named_collection (pair_list ps)

abbrev pub is_same_text : List ℕ → Plain → Bool
is_same_text s (text t) = bytes_eq s t
is_same_text s v = false

abbrev pub has_text : List ℕ → Items → Bool
has_text s is = list_any (is_same_text s) (item_list is)

abbrev pub has_key : List ℕ → Pairs → Bool
has_key s ps = is_some (get s ps)

-- the value of `collections` names this collection
abbrev pub names : List ℕ → Plain → Bool
names s (list is) = has_text s is
names s (hash ps) = has_key s ps
names s v = false

-- what a scope's type may be
abbrev pub is_kind_text : Plain → List ℕ → Bool
is_kind_text collections s = bytes_eq s (codes "posts") || bytes_eq s (codes "drafts") || bytes_eq s (codes "pages") || names s collections

abbrev pub is_kind : Plain → Plain → Bool
is_kind collections nil = true
is_kind collections (text s) = is_kind_text collections s
is_kind collections v = false

abbrev pub is_hash : Plain → Bool
is_hash (hash ps) = true
is_hash v = false

-- a hash with a scope, which has a path and perhaps a type, and values
abbrev pub is_scope : Plain → Plain → Bool
is_scope collections v = let scope = setting (codes "scope") v in
    is_text (setting (codes "path") scope) && is_kind collections (setting (codes "type") scope) && is_hash (setting (codes "values") v)

abbrev pub are_scopes : Plain → Items → Bool
are_scopes collections is = list_all (is_scope collections) (item_list is)

-- the text holds `:num`
abbrev pub holds_number : List ℕ → Bool
holds_number [] = false
holds_number (c ∷ cs) = starts_with nat_eq (c ∷ cs) (codes ":num") || holds_number cs

-- both options are bools, where they are there
abbrev pub is_liquid : Pairs → Bool
is_liquid ps = is_flag (setting (codes "strict_variables") (hash ps)) && is_flag (setting (codes "strict_filters") (hash ps))

-- the name of one of the lists of a post's labels
abbrev pub is_archive : Plain → Bool
is_archive (text s) = bytes_eq s (codes "tags") || bytes_eq s (codes "categories")
is_archive v = false

abbrev pub are_archives : Items → Bool
are_archives is = list_all is_archive (item_list is)

-- the value has the form, where `collections` has its own; nil stands for what is absent
abbrev pub fits : Plain → Form → Plain → Bool
fits collections f nil = true
fits collections form.Text v = is_text v
fits collections form.Texts (list is) = are_texts is
fits collections form.Collections (list is) = are_names is
fits collections form.Collections (hash ps) = are_collections ps
fits collections form.Scopes (list is) = are_scopes collections is
fits collections form.Count (int (pos n)) = nat_le 1 n
fits collections form.PagePath (text s) = holds_number s
fits collections form.Separator (text s) = not (length s == 0)
fits collections form.Offset (text s) = is_some (read_offset s)
fits collections form.Flag (bool b) = true
fits collections form.Liquid (hash ps) = is_liquid ps
fits collections form.Archives (list is) = are_archives is
fits collections f v = false
