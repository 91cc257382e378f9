-- The variables and the body of a text: what its front matter sets, and what stands behind that. After Jekyll 4's manual, "Front Matter".
use Rattle.std.specs.Prelude.{◌≡◌, ℕ, List, take, drop, Option, Some, None, Result, Ok, Err, if◌then◌else◌}
use Rattle.std.specs.Str.{is_utf8}
use Rattle.site_base.specs.Chains.{◌>>=◌}
use Rattle.site_base.specs.Plain.{Pairs, no_pairs}
use Rattle.site_base.specs.declared.faults.FaultKind.TheVariants as fault
use Rattle.front_yaml.specs.Front.{front}
use Rattle.front_yaml.specs.Reading.{Reading}
use Rattle.front_yaml.specs.Yaml.{yaml_pairs}
use Rattle.front_yaml.specs.declared.front_matter.Front.{Front}
use Rattle.front_yaml.specs.declared.front_matter.Front.TheVariants.{Page, Open, Plain}
use Rattle.front_yaml.specs.declared.faults.YamlError.{YamlError}
use Rattle.front_yaml.specs.declared.faults.YamlError.TheVariants as yaml_error
use Rattle.site_items.specs.Outcomes.{Outcome}
use Rattle.site_items.specs.declared.item_error.ItemError.{ItemError}
use Rattle.site_items.specs.declared.item_error.ItemError.TheVariants as item_error
use Rattle.site_items.specs.declared.item_error.LineFault.{LineFault}
use Rattle.site_items.specs.declared.matter.Matter.{Matter}

abbrev pub in_file : Reading Pairs → Outcome Pairs
in_file (Ok ps) = Ok ps
in_file (Err f) = Err (f.0, fault.Yaml f.1)

-- the same of an answer
abbrev pub error_in_file : YamlError → ItemError
error_in_file yaml_error.Memory = item_error.Memory
error_in_file (yaml_error.Fault f) = item_error.Fault (record { line = f.line; kind = fault.Yaml f.kind })

-- the variables that the front matter sets, read with its first line `---`, so that lines are counted in the file; where it is
-- not closed, or is none, it sets none
abbrev pub variables_in : List ℕ → Front → Outcome Pairs
variables_in text (Page start end body) = in_file (yaml_pairs (take end text))
variables_in text Open = Ok no_pairs
variables_in text Plain = Ok no_pairs

abbrev pub body_in : List ℕ → Front → List ℕ
body_in text (Page start end body) = drop body text
body_in text Open = text
body_in text Plain = text

abbrev pub own_variables : List ℕ → Outcome Pairs
own_variables text = variables_in text (front text)

abbrev pub body : List ℕ → List ℕ
body text = body_in text (front text)

abbrev pub text_matter : List ℕ → Outcome Matter
text_matter text = own_variables text >>= λ own. Ok (record { vars = own; body = body text })

-- the variables and the body of a file, which has to be a text
abbrev pub matter : List ℕ → Outcome Matter
matter bytes = if is_utf8 bytes then text_matter bytes else Err (0, fault.NotUtf8)

-- a value or a fault, as it is kept
abbrev pub outcome_of : {A : Type 0} → Result A LineFault → Outcome A
outcome_of (Ok x) = Ok x
outcome_of (Err f) = Err (f.line, f.kind)

-- what is known of these bytes, where something is, is what is found in them
abbrev pub IsKnown : List ℕ → Option (Result Matter LineFault) → Type 0
IsKnown bytes None = Unit {0}
IsKnown bytes (Some known) = matter bytes ≡ outcome_of known
