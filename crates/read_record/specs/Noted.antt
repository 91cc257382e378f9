-- What was found of reads by numbers over a world, so that a read that many records have is looked up once.
use Rattle.std.specs.Prelude.{◌≡◌, ℕ, ◌<◌, List, Option, Some, if◌then◌else◌, slice_get, slice_set}
use Rattle.text_pool.specs.Texts.{bytes_of, count_of}
use Rattle.read_record.specs.declared.key.Key.{Key}
use Rattle.read_record.specs.declared.notes.Note.{Note}
use Rattle.read_record.specs.declared.notes.Verdict.{Verdict}
use Rattle.read_record.specs.declared.notes.Verdict.TheVariants as verdict
use Rattle.read_record.specs.declared.outcome.Agreement.{Agreement}
use Rattle.read_record.specs.declared.outcome.Agreement.TheVariants as agreement
use Rattle.read_record.specs.declared.outcome.Outcome.{Outcome}
use Rattle.read_record.specs.Records.{agreement_of}
use Rattle.read_record.specs.Stores.{Store, key_of, uses_of}
use Rattle.read_record.specs.Worlds.{Sight, is_steady}

-- by the number of a key the number of a code, and what was found of the two
abbrev pub NoteList : Type 0
NoteList = List Note

-- whoever asks for the key finds this of the code
pub record Says (store : Store) (sight : Sight) (key code : ℕ) (found : Agreement) : Type 0 where
  pub key_there : 0 < uses_of store.keys key
  pub code_there : 0 < count_of store.codes code
  pub right : (reader : ℕ) (known : ℕ → Option Outcome) → agreement_of (sight reader known (key_of store.keys key)) (bytes_of store.codes code) ≡ found

-- a verdict is right
abbrev pub IsRightly : Verdict → Store → Sight → ℕ → ℕ → Type 0
IsRightly verdict.Unknown store sight key code = Unit {0}
IsRightly verdict.Agrees store sight key code = Says store sight key code agreement.Same
IsRightly verdict.Differs store sight key code = Says store sight key code agreement.Other

abbrev pub AreRight : Store → Sight → NoteList → Type 0
AreRight store sight notes = (key : ℕ) (note : Note) → slice_get notes key ≡ Some note → IsRightly note.verdict store sight key note.code

-- with what a read was found to be
abbrev pub with_note : ℕ × ℕ → Agreement → NoteList → NoteList
with_note read agreement.Same notes = slice_set notes read.0 (record { code = read.1; verdict = verdict.Agrees })
with_note read agreement.Other notes = slice_set notes read.0 (record { code = read.1; verdict = verdict.Differs })
with_note read (agreement.Needs j) notes = notes

-- the same, where it is found alike by all who ask
abbrev pub noted_read : Key → ℕ × ℕ → Agreement → NoteList → NoteList
noted_read key read found notes = if is_steady key then with_note read found notes else notes
