-- What is known of a value once it was followed from one file, and for which other files that holds.
use Rattle.std.specs.Prelude.{◌≡◌, Bool, List, Option, Some, [], codes, flat_map, if◌then◌else◌, slice_index_or, ℕ, ◌==◌, ◌∷◌}
use Rattle.std.specs.Borrow.{Bor}
use Rattle.site_text.specs.Bytes.{is_one_of, slash}
use Rattle.link_check.specs.Answered.{broken_links, is_broken, is_unanswered}
use Rattle.link_check.specs.Links.{links}
use Rattle.link_check.specs.Numbers.{held_at}
use Rattle.link_check.specs.Targets.{folder_of}
use Rattle.link_check.specs.declared.answering.Broken.{Broken}
use Rattle.link_check.specs.declared.leading.LinkTarget.TheVariants.{Path}
use Rattle.link_check.specs.declared.notes.Note.{Note}
use Rattle.link_check.specs.declared.notes.Spot.{Spot}
use Rattle.link_check.specs.declared.page.Page.{Page}
use Rattle.link_check.specs.declared.notes.Note.TheVariants.{Everywhere, InFolder, OfFile, Unknown}

-- a value that begins with `/` leads to one place from everywhere; one without a path leads to the file in which it stands
abbrev pub note_by : (first : ℕ) → Bor (List ℕ) → Bool → Note
note_by first folder broken = if first == slash then Everywhere broken else if is_one_of (codes "?#") first then OfFile else InFolder folder broken

abbrev pub note_of : (value : List ℕ) → Bor (List ℕ) → Bool → Note
note_of [] folder broken = OfFile
note_of (c ∷ cs) folder broken = note_by c folder broken

-- the note is right of a value in each file for which it holds
abbrev pub IsRight : (List ℕ → Bool) → (base value : List ℕ) → Note → Type 0
IsRight has base value Unknown = Unit {0}
IsRight has base value (Everywhere broken) = (from : List ℕ) → is_broken has from value base ≡ broken
IsRight has base value (InFolder folder broken) = (from : List ℕ) → folder_of from ≡ folder.now → is_broken has from value base ≡ broken
IsRight has base value OfFile = (from : List ℕ) → is_broken has from value base ≡ is_unanswered has (Path from)

-- each note is right of the value with its number
abbrev pub AreRight : (List ℕ → Bool) → (base : List ℕ) → List (Option (List ℕ)) → List Note → Type 0
AreRight has base values notes = (n : ℕ) (value : List ℕ) → held_at values n ≡ Some value → IsRight has base value (slice_index_or notes n Unknown)

-- the folder of a file, and whether anything answers its path
pub record IsSpot (has : List ℕ → Bool) (spot : Spot) : Type 0 where
  pub folder : folder_of spot.path.now ≡ spot.folder.now
  pub missing : is_unanswered has (Path spot.path.now) ≡ spot.is_missing

-- the broken links of pages, in their order
abbrev pub broken_of : (List ℕ → Bool) → (base : List ℕ) → List (List ℕ × Page) → List Broken
broken_of has base entries = flat_map (λ e. broken_links has e.0 base (links e.1.bytes)) entries
