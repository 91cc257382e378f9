-- Fingerprints of keys: SipHash-1-3 with both keys 0.
use Rattle.std.specs.Prelude.{◌≡◌, ℕ, ◌<◌, ◌==◌, List, Option}
use Rattle.std.specs.Hash.DefaultHasher as sip
use Rattle.std.specs.List.{position}
use Rattle.std.specs.Ordering.{nat_cmp}
use Rattle.std.specs.BTreeMap.{BTreeMap, btree_map_len, get}
use Rattle.site_base.specs.declared.value.Pair.{Pair}

unfoldable pub fingerprint : List ℕ → ℕ
fingerprint key = sip.finish (sip.write sip.initial key)

-- the place of the first pair whose key has the fingerprint
abbrev pub first_with : ℕ → List Pair → Option ℕ
first_with print pairs = position (λ pair. fingerprint pair.key == print) pairs

-- the map has the place of the first pair with each fingerprint
abbrev pub IsIndex : List Pair → BTreeMap ℕ ℕ → Type 0
IsIndex pairs places = (print : ℕ) → get nat_cmp places print ≡ first_with print pairs

-- where there is an index, it is that of the pairs
abbrev pub IsIndexed : List Pair → BTreeMap ℕ ℕ → Type 0
IsIndexed pairs places = 0 < btree_map_len places → IsIndex pairs places
