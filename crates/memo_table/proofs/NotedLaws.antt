-- Notes, once the store has more.
use Rattle.std.proofs.Common.{◌≡◌, ℕ, ◌∙◌, arith}
use Rattle.text_pool.specs.Texts.{bytes_of}
use Rattle.read_record.specs.declared.notes.Verdict.{Verdict}
use Rattle.read_record.specs.declared.notes.Verdict.TheVariants as verdict
use Rattle.read_record.specs.declared.outcome.Agreement.{Agreement}
use Rattle.read_record.specs.declared.outcome.Agreement.TheVariants as agreement
use Rattle.read_record.specs.Noted.{NoteList, Says, IsRightly, AreRight}
use Rattle.read_record.specs.Records.{agreement_of}
use Rattle.read_record.specs.Stores.{Store, key_of, held_keys, held_codes, key_numbers, code_numbers}
use Rattle.read_record.specs.Worlds.{Sight}
use Rattle.read_record.proofs.StoreLaws.{same_after}
use Rattle.memo_table.specs.Stored.{Grew}

module _ (a b : Store) (sight : Sight) (grew : Grew a b) where
  says-later : (key code : ℕ) (found : Agreement) → Says a sight key code found → Says b sight key code found
  says-later key code found says =
      let same_key : key_of b.keys key ≡ key_of a.keys key = same_after (held_keys a.keys) (held_keys b.keys) key (key_numbers grew.0) grew.1.keys says.key_there in
      let same_code : bytes_of b.codes code ≡ bytes_of a.codes code = same_after (held_codes a.codes) (held_codes b.codes) code (code_numbers grew.0) grew.1.codes says.code_there in
      record {
        key_there = omega (arith, says.key_there, grew.1.keys.counts key);
        code_there = omega (arith, says.code_there, grew.1.codes.counts code);
        right = λ reader known. (λ i. agreement_of (sight reader known (same_key i)) (same_code i)) ∙ says.right reader known;
      }

  rightly-later : (said : Verdict) (key code : ℕ) → IsRightly said a sight key code → IsRightly said b sight key code
  rightly-later verdict.Unknown key code right = tt
  rightly-later verdict.Agrees key code right = says-later key code agreement.Same right
  rightly-later verdict.Differs key code right = says-later key code agreement.Other right

  -- what was noted goes on to be right
  pub right-later : (notes : NoteList) → AreRight a sight notes → AreRight b sight notes
  right-later notes right key note at = rightly-later note.verdict key note.code (right key note at)
