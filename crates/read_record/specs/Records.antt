-- What a record of reads says: whether a view agrees with it, and what it certifies.
use Rattle.std.specs.Prelude.{◌≡◌, ℕ, ◌+◌, List, [], ◌∷◌, ◌++◌, map, Option, Some, None, if◌then◌else◌}
use Rattle.std.specs.Map.{lookup}
use Rattle.std.specs.Str.{bytes_eq}
use Rattle.site_base.specs.Code.{code}
use Rattle.site_base.specs.Plain.{Plain}
use Rattle.read_record.specs.declared.key.Key.{Key}
use Rattle.read_record.specs.declared.outcome.Agreement.{Agreement}
use Rattle.read_record.specs.declared.outcome.Agreement.TheVariants as agreement
use Rattle.read_record.specs.declared.outcome.Checked.{Checked}
use Rattle.read_record.specs.declared.outcome.Checked.TheVariants as checked
use Rattle.read_record.specs.Keys.{same_key}
use Rattle.read_record.specs.Queries.{Query, Reply, Known, Missing, View, Met, Gave, Failed, Missed, interpret, missed_key, Reads}

-- ---- agreement

-- whether a reply is the value with this code
abbrev pub agreement_of : Reply → List ℕ → Agreement
agreement_of (Known v) bytes = if bytes_eq bytes (code v) then agreement.Same else agreement.Other
agreement_of (Missing j) bytes = agreement.Needs j

-- what an agreement at a place says of a record, where the reads behind it say this
abbrev pub checked_at : Agreement → ℕ → Checked → Checked
checked_at agreement.Same place behind = behind
checked_at agreement.Other place behind = checked.Differs place
checked_at (agreement.Needs j) place behind = checked.Needs j

abbrev pub first_other_from : ℕ → Reads → View → Checked
first_other_from place [] view = checked.Agrees
first_other_from place (r ∷ rs) view = checked_at (agreement_of (view r.0) r.1) place (first_other_from (place + 1) rs view)

-- the first read of a record to which the view does not give the value that was seen
abbrev pub first_other : Reads → View → Checked
first_other reads view = first_other_from 0 reads view

-- ---- certificates

-- keys with the values that were seen
abbrev pub Seen : Type 0
Seen = List (Key × Plain)

abbrev pub coded : Seen → Reads
coded seen = map (λ s. (s.0, code s.1)) seen

abbrev pub reply_of : Option Plain → Reply
reply_of (Some v) = Known v
reply_of None = Missing 0

-- the view of what was seen: it answers these keys alone. It knows no item, so the number of what it misses says nothing
abbrev pub recorded : Seen → View
recorded seen k = reply_of (lookup (same_key k) seen)

-- the view answers each key with the value that was seen
abbrev pub Answers : Seen → View → Type 0
Answers seen view = (k : Key) (v : Plain) → lookup (same_key k) seen ≡ Some v → view k ≡ Known v

module _ {F A : Type 0} where
  -- it is a value or a fault
  abbrev pub IsMade : Met F A → Type 0
  IsMade (Gave a) = Unit {0}
  IsMade (Failed e) = Unit {0}
  IsMade (Missed k j) = ⊥

  -- what was seen alone gives what was met, and each key is needed: what was seen before it alone misses it
  pub record Shows (seen : Seen) (q : Query F A) (m : Met F A) : Type 0 where
    pub made : IsMade m
    pub gives : interpret (recorded seen) q ≡ m
    pub needed : (front : Seen) (s : Key × Plain) (back : Seen) → seen ≡ front ++ s ∷ back → missed_key (interpret (recorded front) q) ≡ Some s.0

  -- the codes are those of what was seen, which alone gives what was met, each key of it needed
  pub record Certifies (reads : Reads) (q : Query F A) (m : Met F A) : Type 0 where
    pub seen : Seen
    pub are : coded seen ≡ reads
    pub shows : Shows seen q m

  -- what was seen alone misses this key
  pub record Misses (reads : Reads) (q : Query F A) (k : Key) : Type 0 where
    pub seen : Seen
    pub are : coded seen ≡ reads
    pub misses : missed_key (interpret (recorded seen) q) ≡ Some k
