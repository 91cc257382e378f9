-- Notes: what they tell, and that they stay right.
use Rattle.std.proofs.Common.{◌≡◌, ◌≢◌, ◌⊎◌, inl, inr, ℕ, zero, suc, ◌<◌, Bool, true, false, cond, List, replicate, slice_get, Option, Some, refl, sym, ap, subst, ◌∙◌}
use Rattle.text_pool.specs.Texts.{bytes_of, count_of}
use Rattle.read_record.specs.declared.key.Key.{Key}
use Rattle.read_record.specs.declared.notes.Note.{Note}
use Rattle.read_record.specs.declared.notes.Verdict.{Verdict}
use Rattle.read_record.specs.declared.notes.Verdict.TheVariants as verdict
use Rattle.read_record.specs.declared.outcome.Agreement.{Agreement}
use Rattle.read_record.specs.declared.outcome.Agreement.TheVariants as agreement
use Rattle.read_record.specs.declared.outcome.Outcome.{Outcome}
use Rattle.read_record.specs.Noted.{NoteList, Says, IsRightly, AreRight, with_note, noted_read}
use Rattle.read_record.specs.Records.{agreement_of}
use Rattle.read_record.specs.Stores.{Store, key_of, uses_of}
use Rattle.read_record.specs.Worlds.{Sight, Lawful, is_steady}
use Rattle.read_record.proofs.PlaceLaws.{get-set}

-- ---- no notes

replicate-get : {A : Type 0} (n : ℕ) (x : A) (k : ℕ) (y : A) → slice_get (replicate n x) k ≡ Some y → x ≡ y
replicate-get zero x k y at = cc
replicate-get (suc n) x zero y at = cc
replicate-get (suc n) x (suc k) y at = replicate-get n x k y at

pub none-right : (n : ℕ) (notes : NoteList) → notes ≡ replicate n (record { code = 0; verdict = verdict.Unknown }) → (store : Store) (sight : Sight) → AreRight store sight notes
none-right n notes none store sight key note at =
    let empty : Note = record { code = 0; verdict = verdict.Unknown } in
    let is : empty ≡ note = replicate-get n empty key note (ap (λ (l : NoteList). slice_get l key) (sym none) ∙ at) in
    subst (λ (m : Note). IsRightly m.verdict store sight key m.code) is tt

module _ (store : Store) (sight : Sight) (notes : NoteList) (read : ℕ × ℕ) (right : AreRight store sight notes) where
  -- ---- what a note tells

  module _ (v : Verdict) (note : v ≢ verdict.Unknown → slice_get notes read.0 ≡ Some (record { code = read.1; verdict = v })) (reader : ℕ) (known : ℕ → Option Outcome) where
    pub told-same : v ≡ verdict.Agrees → agreement.Same ≡ agreement_of (sight reader known (key_of store.keys read.0)) (bytes_of store.codes read.1)
    told-same is =
        let differ : v ≢ verdict.Unknown = λ u. cc in
        let says : Says store sight read.0 read.1 agreement.Same = subst (λ w. IsRightly w store sight read.0 read.1) is (right read.0 (record { code = read.1; verdict = v }) (note differ)) in
        sym (says.right reader known)

    pub told-other : v ≡ verdict.Differs → agreement.Other ≡ agreement_of (sight reader known (key_of store.keys read.0)) (bytes_of store.codes read.1)
    told-other is =
        let differ : v ≢ verdict.Unknown = λ u. cc in
        let says : Says store sight read.0 read.1 agreement.Other = subst (λ w. IsRightly w store sight read.0 read.1) is (right read.0 (record { code = read.1; verdict = v }) (note differ)) in
        sym (says.right reader known)

  -- ---- what is noted

  set-right : (new : Note) → new.code ≡ read.1 → IsRightly new.verdict store sight read.0 new.code → (key : ℕ) (note : Note) → (slice_get notes key ≡ Some note) ⊎ ((key ≡ read.0) × (new ≡ note))
      → IsRightly note.verdict store sight key note.code
  set-right new code is key note (inl old) = right key note old
  set-right new code is key note (inr new_one) =
      subst (λ (m : Note). IsRightly m.verdict store sight key m.code) new_one.1 (subst (λ k. IsRightly new.verdict store sight k new.code) (sym new_one.0) is)

  module _ (lawful : Lawful sight) (there : 0 < uses_of store.keys read.0) (code_there : 0 < count_of store.codes read.1) (reader : ℕ) (known : ℕ → Option Outcome) where
    says : (found : Agreement) → found ≡ agreement_of (sight reader known (key_of store.keys read.0)) (bytes_of store.codes read.1) → is_steady (key_of store.keys read.0) ≡ true
        → Says store sight read.0 read.1 found
    says found is steady =
        record {
          key_there = there;
          code_there = code_there;
          right = λ other more. ap (λ r. agreement_of r (bytes_of store.codes read.1)) (lawful.steady (key_of store.keys read.0) steady other reader more known) ∙ sym is;
        }

    pub kept-right : (found : Agreement) → found ≡ agreement_of (sight reader known (key_of store.keys read.0)) (bytes_of store.codes read.1)
        → AreRight store sight (noted_read (key_of store.keys read.0) read found notes)
    kept-right found is = by (is_steady (key_of store.keys read.0)) refl
      where
        noted : (f : Agreement) → Says store sight read.0 read.1 f → AreRight store sight (with_note read f notes)
        noted agreement.Same s key note at =
            let new : Note = record { code = read.1; verdict = verdict.Agrees } in set-right new refl s key note (get-set notes read.0 key new note at)
        noted agreement.Other s key note at =
            let new : Note = record { code = read.1; verdict = verdict.Differs } in set-right new refl s key note (get-set notes read.0 key new note at)
        noted (agreement.Needs j) s key note at = right key note at

        by : (b : Bool) → is_steady (key_of store.keys read.0) ≡ b → AreRight store sight (cond b (with_note read found notes) notes)
        by true e = noted found (says found is e)
        by false e = right

    -- the same by what was lent of the read
    pub asked-right : (found : Agreement) (k : Key) (code : List ℕ) (new : NoteList) → k ≡ key_of store.keys read.0 → code ≡ bytes_of store.codes read.1 → found ≡ agreement_of (sight reader known k) code
        → new ≡ noted_read k read found notes → AreRight store sight new
    asked-right found k code new same_key same_code is kept =
        subst (AreRight store sight) (sym (kept ∙ ap (λ (k : Key). noted_read k read found notes) same_key)) (kept-right found (is ∙ (λ i. agreement_of (sight reader known (same_key i)) (same_code i))))
