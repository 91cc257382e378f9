-- Values of data files, and where they are put.
use Rattle.std.proofs.Common.{◌≡◌, ℕ, ◌+◌, Bool, true, false, List, [], ◌∷◌, ◌==◌, length, Option, Some, None, Ok, refl, arith}
use Rattle.std.specs.Option.{option_map}
use Rattle.std.specs.Str.{IsUtf8, is_utf8}
use Rattle.std.proofs.lemmas.List.Splits.{length-slice_split}
use Rattle.std.proofs.lemmas.Str.{IsUtf8-from_is_utf8}
use Rattle.site_base.specs.Path.{segments}
use Rattle.site_base.specs.Plain.{Plain, hash, Pairs, get, set}
use Rattle.site_base.specs.View.{plain}
use Rattle.site_base.specs.declared.value.Value.{Value}
use Rattle.data_files.specs.Formats.{ReadsFile}
use Rattle.data_files.specs.declared.format.Format.{Format}
use Rattle.data_files.specs.declared.format.Format.TheVariants as form
use Rattle.site_reader.specs.Data.{found_text, pairs_or_none, with_value}

pub not_utf8 : (s : List ℕ) → (IsUtf8 s → ⊥) → is_utf8 s ≡ false
not_utf8 s none = at (is_utf8 s) (IsUtf8-from_is_utf8 s)
  where
    at : (b : Bool) → (b ≡ true → IsUtf8 s) → b ≡ false
    at true holds = absurd (none (holds refl))
    at false holds = refl

-- the value that a text says
pub value_read : (f : Option Format) (s : List ℕ) (v : Option Value) → ReadsFile f s (Ok v) → found_text f s ≡ Ok (option_map plain v)
value_read None s None r = refl
value_read None s (Some v) r = absurd r
value_read (Some f) s None r = absurd r
value_read (Some form.Yaml) s (Some v) r = rw r refl
value_read (Some form.Json) s (Some v) r = rw r refl
value_read (Some form.Csv) s (Some v) r = rw r refl
value_read (Some form.Tsv) s (Some v) r = rw r refl

-- ---- names

below : (ns : List (List ℕ)) (folder : List ℕ) (v : Plain) (tree : Pairs) (n : ℕ) → length ns ≡ n + 1
    → with_value (folder ∷ ns) v tree ≡ set folder (hash (with_value ns v (pairs_or_none (get folder tree)))) tree
below [] folder v tree n e = absurd (omega (arith, e))
below (name ∷ names) folder v tree n e = refl

pub in_folder : (folder rest : List ℕ) (v : Plain) (tree : Pairs)
    → with_value (folder ∷ segments rest) v tree ≡ set folder (hash (with_value (segments rest) v (pairs_or_none (get folder tree)))) tree
in_folder folder rest v tree = below (segments rest) folder v tree _ (length-slice_split (λ b. b == 47) rest)
