-- What an answer says of the definition.
use Rattle.std.specs.Prelude.{◌≡◌, ℕ, ◌+◌, ◌<◌, ◌≤◌, List, ◌++◌, length, take, drop, Bool, not, ◌&&◌, ◌||◌, ◌==◌, if◌then◌else◌, Result, Ok, Err}
use Rattle.site_base.specs.Plain.{Plain}
use Rattle.site_base.specs.View.{plain}
use Rattle.site_base.specs.declared.value.Value.{Value}
use Rattle.front_yaml.specs.Reading.{Reading}
use Rattle.front_yaml.specs.Bytes.{is_gap, white_len}
use Rattle.front_yaml.specs.declared.flow_parts.Part.{Part}
use Rattle.front_yaml.specs.declared.flow_parts.Part.TheVariants.{Shut, Last, More}
use Rattle.front_yaml.specs.Folding.{within, folded, ends_line}
use Rattle.site_base.specs.declared.faults.YamlKind.{YamlKind}
use Rattle.front_yaml.specs.declared.faults.PlaceFault.{PlaceFault}
use Rattle.front_yaml.specs.declared.faults.PlaceError.{PlaceError}
use Rattle.front_yaml.specs.declared.faults.PlaceError.TheVariants as place_error
use Rattle.front_yaml.specs.declared.faults.YamlFault.{YamlFault}
use Rattle.front_yaml.specs.declared.faults.YamlError.{YamlError}
use Rattle.front_yaml.specs.declared.faults.YamlError.TheVariants as yaml_error

-- the definition's first fault, unless memory ran out
abbrev pub FailsAt : {A : Type 0} → PlaceError → Reading A → Type 0
FailsAt place_error.Memory r = Unit {0}
FailsAt (place_error.Fault f) r = r ≡ Err (f.place, f.kind)

-- the definition's value, which `seen` makes of the answer's, or its first fault, unless memory ran out
abbrev pub ReadsAs : {A B : Type 0} → (A → B) → Result A PlaceError → Reading B → Type 0
ReadsAs seen (Ok x) r = r ≡ Ok (seen x)
ReadsAs seen (Err e) r = FailsAt e r

abbrev pub ReadsAt : {A : Type 0} → Result A PlaceError → Reading A → Type 0
ReadsAt = ReadsAs (λ x. x)

-- a fault as the definition has it
abbrev pub as_pair : PlaceFault → ℕ × YamlKind
as_pair f = (f.place, f.kind)

-- a value, for which a plain tree stands
abbrev pub ReadsValue : Result Value PlaceError → Reading Plain → Type 0
ReadsValue = ReadsAs plain

-- a value with its bytes
abbrev pub ReadsSized : Result (Value × ℕ) PlaceError → Reading (Plain × ℕ) → Type 0
ReadsSized = ReadsAs (λ x. (plain x.0, x.1))

-- a leaf with its bytes and the kind of what may not follow it
abbrev pub ReadsLeaf : Result (Value × ℕ × YamlKind) PlaceError → Reading (Plain × (ℕ × YamlKind)) → Type 0
ReadsLeaf = ReadsAs (λ x. (plain x.0, (x.1, x.2)))

-- an entry of a flow hash, with its bytes
abbrev pub ReadsEntry : Result (List ℕ × Value × ℕ) PlaceError → Reading ((List ℕ × Plain) × ℕ) → Type 0
ReadsEntry = ReadsAs (λ x. ((x.0, plain x.1), x.2))

-- a part of a flow list or hash
abbrev pub part_as : {A B : Type 0} → (A → B) → Part A → Part B
part_as seen (Shut n) = Shut n
part_as seen (Last x n) = Last (seen x) n
part_as seen (More x n) = More (seen x) n

abbrev pub ReadsItem : Result (Part Value) PlaceError → Reading (Part Plain) → Type 0
ReadsItem = ReadsAs (part_as plain)

abbrev pub ReadsPair : Result (Part (List ℕ × Value)) PlaceError → Reading (Part (List ℕ × Plain)) → Type 0
ReadsPair = ReadsAs (part_as (λ x. (x.0, plain x.1)))

-- the bytes of a part, with the separator behind it
abbrev pub part_len : {A : Type 0} → Part A → ℕ
part_len (Shut n) = n + 1
part_len (Last x n) = n + 1
part_len (More x n) = n + 1

-- what was read, which has `len` bytes, or the place of a fault, is within n bytes
abbrev pub FitsBy : {A : Type 0} → (A → ℕ) → ℕ → Result A PlaceError → Type 0
FitsBy len n (Ok x) = len x ≤ n
FitsBy len n (Err place_error.Memory) = Unit {0}
FitsBy len n (Err (place_error.Fault f)) = f.place ≤ n

abbrev pub Fits : {A : Type 0} → ℕ → Result (A × ℕ) PlaceError → Type 0
Fits = FitsBy (λ x. x.1)

abbrev pub LeafFits : ℕ → Result (Value × ℕ × YamlKind) PlaceError → Type 0
LeafFits = FitsBy (λ x. x.1)

abbrev pub EntryFits : ℕ → Result (List ℕ × Value × ℕ) PlaceError → Type 0
EntryFits = FitsBy (λ x. x.2)

abbrev pub PartFits : {A : Type 0} → ℕ → Result (Part A) PlaceError → Type 0
PartFits = FitsBy part_len

-- a separator stands within n bytes, some bytes behind a place
abbrev pub SeparatorFits : ℕ → ℕ → Result (Bool × ℕ) PlaceError → Type 0
SeparatorFits at = FitsBy (λ x. at + x.1 + 1)

-- a fault stands within n bytes
abbrev pub FaultFits : {A : Type 0} → ℕ → Result A PlaceError → Type 0
FaultFits = FitsBy (λ _. 0)

-- the same of a reading by lines
abbrev pub FailsLines : {A : Type 0} → YamlError → Reading A → Type 0
FailsLines yaml_error.Memory r = Unit {0}
FailsLines (yaml_error.Fault f) r = r ≡ Err (f.line, f.kind)

abbrev pub ReadsLines : {A : Type 0} → Result A YamlError → Reading A → Type 0
ReadsLines (Ok x) r = r ≡ Ok x
ReadsLines (Err e) r = FailsLines e r

abbrev pub Gives : Result Value YamlError → Reading Plain → Type 0
Gives (Ok v) r = r ≡ Ok (plain v)
Gives (Err e) r = FailsLines e r

-- the same of a key with its value
abbrev pub GivesPair : Result (List ℕ × Value) YamlError → Reading (List ℕ × Plain) → Type 0
GivesPair (Ok x) r = r ≡ Ok (x.0, plain x.1)
GivesPair (Err e) r = FailsLines e r

abbrev pub as_line_pair : YamlFault → ℕ × YamlKind
as_line_pair f = (f.line, f.kind)

-- a byte that stands for itself
abbrev pub is_solid : Bool → ℕ → Bool
is_solid escapes c = not (is_gap c || escapes && (c == 92))

-- the white space at the front, unless the line ends behind it
abbrev pub kept_white : List ℕ → List ℕ
kept_white s = take (if ends_line s then 0 else white_len s) s

-- the first n bytes of a text went to the end of what was made of the text before
pub record Folds (escapes : Bool) (old new text : List ℕ) (n : ℕ) : Type 0 where
  pub some : 0 < n
  pub inside : n ≤ length text
  pub same : new ++ folded escapes within 0 (drop n text) ≡ old ++ folded escapes within 0 text
