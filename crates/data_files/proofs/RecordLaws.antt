-- The records of a text are one list: as many reads as there are bytes and one find them all.
use Rattle.std.proofs.Common.{◌≡◌, ◌⊎◌, inl, inr, ℕ, zero, suc, ◌+◌, ◌<◌, ◌≤◌, Bool, true, false, List, [], ◌∷◌, ◌++◌, length, Option, Some, None, refl, sym, ap, ◌∙◌, arith}
use Rattle.std.specs.Prelude.{if◌then◌else◌, unwrap_or, Result, Ok, Err, IsOkAnd}
use Rattle.csv.specs.Machine.{Read, next_record, ends_at_end, is_end, step, fields_after, field_after}
use Rattle.csv.specs.Reading.{Reached, records_from, records_next, strip_bom}
use Rattle.csv.specs.declared.parser.Config.{Config}
use Rattle.csv.specs.declared.parser.State.{State}
use Rattle.csv.specs.declared.parser.State.TheVariants as st
use Rattle.site_base.specs.Plain.{Plain}
use Rattle.data_files.specs.Tables.{FoundNone, IsNoTable, IsTable, separated, table, table_of}
use Rattle.data_files.specs.declared.refusal.Refusal.{Refusal}
use Rattle.data_files.specs.declared.refusal.Refusal.TheVariants as refusal

-- a read takes bytes, or comes to the text's end
abbrev IsShorter : List ℕ → Read → Type 0
IsShorter xs q = (length q.2 < length xs) ⊎ ((q.1 ≡ st.StartRecord) × (q.2 ≡ []))

some_is : {A : Type 0} {x y : A} → Some x ≡ Some y → x ≡ y
some_is {x = x} e = ap (λ o. unwrap_or o x) e

at_end : (b : Bool) (fields : List (List ℕ)) (q : Read) → (if b then Some (fields, st.StartRecord, []) else None) ≡ Some q → IsShorter [] q
at_end true fields q e = inr (ap (λ (r : Read). r.1) (sym (some_is e)), ap (λ (r : Read). r.2) (sym (some_is e)))
at_end false fields q e = absurd (cc e)

at_byte : (b : Bool) (fields : List (List ℕ)) (s : State) (rest : List ℕ) (c : ℕ) (other : Option Read) (q : Read)
    → (other ≡ Some q → IsShorter rest q) → (if b then Some (fields, s, rest) else other) ≡ Some q → IsShorter (c ∷ rest) q
at_byte true fields s rest c other q later e = let is : rest ≡ q.2 = ap (λ (r : Read). r.2) (some_is e) in inl (omega (arith, ap length is))
at_byte false fields s rest c other q later e = elim (later e) [
  | inl less ↦ inl (omega (arith, less))
  | inr ends ↦ inr ends
]

shorter : (cfg : Config) (s : State) (fields : List (List ℕ)) (field xs : List ℕ) (q : Read) → next_record cfg s fields field xs ≡ Some q → IsShorter xs q
unfolding next_record
shorter cfg s fields field [] q e = at_end (ends_at_end s) (fields ++ (field ∷ [])) q e
shorter cfg s fields field (c ∷ rest) q e =
    at_byte (is_end (step cfg s c).1) (fields_after (step cfg s c).1 fields field) (step cfg s c).0 rest c _ q
    (shorter cfg (step cfg s c).0 (fields_after (step cfg s c).1 fields field) (field_after (step cfg s c).1 c field) rest q) e

none_at_end : (cfg : Config) (rows : List (List (List ℕ))) (s2 : State) (ys : List ℕ) → Reached cfg st.StartRecord [] rows s2 ys → rows ≡ []
unfolding Reached next_record
none_at_end cfg [] s2 ys r = refl
none_at_end cfg (row ∷ rows) s2 ys (p, e, is, more) = absurd (cc e)

few : (cfg : Config) (s : State) (xs : List ℕ) (rows : List (List (List ℕ))) (s2 : State) (ys : List ℕ) → Reached cfg s xs rows s2 ys → length rows ≤ length xs + 1
unfolding Reached
few cfg s xs [] s2 ys r = omega arith
few cfg s xs (row ∷ rows) s2 ys (p, e, is, more) = elim (shorter cfg s [] [] xs p e) [
  | inl less ↦ omega (arith, less, few cfg p.1 p.2 rows s2 ys more)
  | inr ends ↦ rw (none_at_end cfg rows s2 ys (rw (ends.0, ends.1) at more)) (omega arith)
]

enough : (n : ℕ) (cfg : Config) (s : State) (xs : List ℕ) (rows : List (List (List ℕ))) (s2 : State) (ys : List ℕ)
    → Reached cfg s xs rows s2 ys → next_record cfg s2 [] [] ys ≡ None → length rows ≤ n → records_from cfg n s xs ≡ rows
unfolding Reached records_from
enough zero cfg s xs [] s2 ys r none le = refl
enough zero cfg s xs (row ∷ rows) s2 ys r none le = absurd (omega (arith, le))
enough (suc n) cfg s xs [] s2 ys r none le = rw (r.0, r.1) (ap (records_next (records_from cfg n)) none)
enough (suc n) cfg s xs (row ∷ rows) s2 ys (p, e, is, more) none le =
    ap (records_next (records_from cfg n)) e ∙ ap (λ rs. p.0 ∷ rs) (enough n cfg p.1 p.2 rows s2 ys more none (omega (arith, le))) ∙ ap (λ r. r ∷ rows) (sym is)

-- what is a table by its records is the table of the text
pub table_is : (separator : ℕ) (s : List ℕ) (made : Option Plain) → IsTable separator s made → table_of separator s ≡ made
table_is separator s made (rows, (s2, ys, reached, none), is) =
    ap table (enough (length (strip_bom s) + 1) (separated separator) st.StartRecord (strip_bom s) rows s2 ys reached none (few (separated separator) st.StartRecord (strip_bom s) rows s2 ys reached)) ∙ is

pub none_is : (error : Refusal) (separator : ℕ) (s : List ℕ) → FoundNone error separator s → IsNoTable error separator s
none_is refusal.Refused separator s found = table_is separator s None found
none_is refusal.Memory separator s found = found

-- what is said of an answer that is `Ok`
pub ok_and : {T E : Type 0} (r : Result T E) (P : T → Type 0) → IsOkAnd r P → (x : T) × (r ≡ Ok x) × P x
ok_and (Ok x) P h = (x, refl, h)
ok_and (Err e) P h = absurd h
