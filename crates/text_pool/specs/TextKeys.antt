-- Texts as the keys of a map of the kit.
use Rattle.std.specs.Prelude.{◌≡◌, ℕ, Bool, List, [], ◌∷◌, nat_eq, IsTrue}
use Rattle.std.specs.Cmp.{IsEquivalence}
use Rattle.std.specs.Cmp.Lexicographic.{pointwise, nat_list_eq_equiv, same_text}
use Rattle.std.proofs.Common.{ap, sym}
use Rattle.std.proofs.lemmas.Cmp.{on_equiv}
use Rattle.text_pool.specs.declared.text_key.TextKey.{TextKey}
use Rattle.text_pool.specs.declared.text_key.TextKey.TheVariants.{Kept, Asked}

-- the text that a key is
abbrev pub bytes_in : TextKey → List ℕ
bytes_in (Kept bytes) = bytes.items
bytes_in (Asked bytes) = bytes.now

abbrev pub same_key : TextKey → TextKey → Bool
same_key a b = pointwise nat_eq (bytes_in a) (bytes_in b)

-- what of a key is fed to a hasher
abbrev pub key_writes : TextKey → List (List ℕ)
key_writes key = bytes_in key ∷ []

pub same_key-equiv : IsEquivalence same_key
same_key-equiv = on_equiv bytes_in nat_list_eq_equiv

pub key_writes-same : (a b : TextKey) → IsTrue (same_key a b) → key_writes a ≡ key_writes b
key_writes-same a b h = ap (λ bytes. bytes ∷ []) (same_text (bytes_in a) (bytes_in b) (sym h))
