-- For which files it holds where a value leads.
use Rattle.std.proofs.Common.{◌≡◌, ◌∙◌, ◌<◌, ◌+◌, ℕ, suc, ◌==◌, ◌++◌, Bool, true, false, cond, List, [], ◌∷◌, None, Option, Some, ap, arith, codes, drop, get_or, length, not, refl, slice_set, subst, sym, take, zero}
use Rattle.std.specs.Option.{unwrap_or}
use Rattle.std.specs.Borrow.{Bor}
use Rattle.std.specs.Str.{chars, is_utf8}
use Rattle.std.proofs.Math.Dec.{eqb-suc-zero}
use Rattle.std.proofs.Math.Utf8.{encode}
use Rattle.std.proofs.lemmas.List.{flat_map_more, take_more}
use Rattle.site_text.specs.Bytes.{is_one_of}
use Rattle.site_text.specs.Fronts.{begins_with, run_len}
use Rattle.link_check.specs.Answered.{broken_links, is_broken, is_unanswered, told}
use Rattle.link_check.specs.Notes.{AreRight, IsRight, note_of}
use Rattle.link_check.specs.Numbers.{AreNumbers, held_at}
use Rattle.link_check.specs.Targets.{at_root, below, decoded, decoded_target, first_len, folder_of, hex_pair, inside, is_foreign, is_of_path, onto, placed, plain, plain_target, target, without_query}
use Rattle.link_check.specs.declared.answering.Broken.{Broken}
use Rattle.link_check.specs.declared.leading.LinkTarget.{LinkTarget}
use Rattle.link_check.specs.declared.leading.LinkTarget.TheVariants.{Bad, Outside, Path}
use Rattle.link_check.specs.declared.notes.Note.{Note}
use Rattle.link_check.specs.declared.notes.Note.TheVariants.{Everywhere, InFolder, OfFile, Unknown}
use Rattle.link_check.proofs.NumberLaws.{number_at}
use Rattle.link_check.proofs.ValueLaws.{decoded_end, decoded_is, plain_end, plain_is}

same_text : (a b : List ℕ) → Some a ≡ Some b → a ≡ b
same_text a b e = ap (λ (o : Option (List ℕ)). unwrap_or o a) e

-- ---- a value without a path

empty_utf8 : is_utf8 [] ≡ true
unfolding is_utf8 chars encode
empty_utf8 = refl

-- the value says u, of which nothing stands before its query
own_target : (from base value u : List ℕ) → plain value ≡ u → is_foreign u ≡ false → without_query u ≡ [] → target from value base ≡ Path from
own_target from base value u says near empty =
    ap (plain_target from base) says
    ∙ ap (λ (b : Bool). cond b Outside (decoded_target from base (decoded (without_query u)))) near
    ∙ ap (λ (t : List ℕ). decoded_target from base (decoded t)) empty
    ∙ ap (decoded_target from base) decoded_end
    ∙ ap (λ (b : Bool). cond b (Path from) Bad) empty_utf8

empty_target : (from base : List ℕ) → target from [] base ≡ Path from
empty_target from base = own_target from base [] [] plain_end refl refl

-- what a value says after its first byte
abbrev behind : ℕ → List ℕ → List ℕ
behind c cs = plain (drop (first_len (c ∷ cs)) (c ∷ cs))

says_first : (c : ℕ) (cs : List ℕ) → plain (c ∷ cs) ≡ c ∷ behind c cs
says_first c cs = plain_is (c ∷ cs)

no_path : (c : ℕ) (t : List ℕ) → is_of_path c ≡ false → without_query (c ∷ t) ≡ []
no_path c t e = ap (λ (b : Bool). take (elim b as (λ x. ℕ) [ true ↦ suc (run_len is_of_path t) | false ↦ 0 ]) (c ∷ t)) e

some_path : (c : ℕ) (t : List ℕ) → is_of_path c ≡ true → without_query (c ∷ t) ≡ c ∷ without_query t
some_path c t e = ap (λ (b : Bool). take (elim b as (λ x. ℕ) [ true ↦ suc (run_len is_of_path t) | false ↦ 0 ]) (c ∷ t)) e

-- a query or a fragment is not of another host
mark_near : (t : List ℕ) (c : ℕ) → is_one_of (codes "?#") c ≡ true → is_foreign (c ∷ t) ≡ false
mark_near t c e = go (63 == c) refl (35 == c) refl where
  go : (a : Bool) → (63 == c) ≡ a → (b : Bool) → (35 == c) ≡ b → is_foreign (c ∷ t) ≡ false
  go true p b q = let is : c ≡ 63 = grind (arith, p) in ap (λ (x : ℕ). is_foreign (x ∷ t)) is
  go false p true q = let is : c ≡ 35 = grind (arith, q) in ap (λ (x : ℕ). is_foreign (x ∷ t)) is
  go false p false q = absurd (cc (sym e ∙ ap (λ (a : Bool). elim a as (λ x. Bool) [ true ↦ true | false ↦ elim (35 == c) as (λ x. Bool) [ true ↦ true | false ↦ false ] ]) p ∙ ap (λ (b : Bool). elim b as (λ x. Bool) [ true ↦ true | false ↦ false ]) q))

mark_target : (from base cs : List ℕ) (c : ℕ) → is_one_of (codes "?#") c ≡ true → target from (c ∷ cs) base ≡ Path from
mark_target from base cs c e =
    own_target from base (c ∷ cs) (c ∷ behind c cs) (says_first c cs) (mark_near (behind c cs) c e) (no_path c (behind c cs) (ap not e))

-- ---- a value with a path

-- where a path leads hangs on the folder of the file
placed_some : (f g base : List ℕ) (c : ℕ) (t : List ℕ) → folder_of f ≡ folder_of g → placed f base (c ∷ t) ≡ placed g base (c ∷ t)
placed_some f g base c t same =
    let rest : List ℕ → LinkTarget = λ folder. cond (begins_with (47 ∷ []) (c ∷ t)) (inside (below base (c ∷ t))) (at_root (folder ++ c ∷ t)) in
    ap (λ (b : Bool). cond b (Path f) (rest (folder_of f))) (eqb-suc-zero (length t))
    ∙ ap rest same
    ∙ sym (ap (λ (b : Bool). cond b (Path g) (rest (folder_of g))) (eqb-suc-zero (length t)))

-- and not even on that where it begins with `/`
placed_slash : (f g base t : List ℕ) → placed f base (47 ∷ t) ≡ placed g base (47 ∷ t)
placed_slash f g base t =
    ap (λ (b : Bool). cond b (Path f) (inside (below base (47 ∷ t)))) (eqb-suc-zero (length t))
    ∙ sym (ap (λ (b : Bool). cond b (Path g) (inside (below base (47 ∷ t)))) (eqb-suc-zero (length t)))

decoded_some : (f g base : List ℕ) (c : ℕ) (o : Option (List ℕ)) → folder_of f ≡ folder_of g → decoded_target f base (onto c o) ≡ decoded_target g base (onto c o)
decoded_some f g base c None same = refl
decoded_some f g base c (Some t) same = ap (λ (l : LinkTarget). cond (is_utf8 (c ∷ t)) l Bad) (placed_some f g base c t same)

decoded_slash : (f g base : List ℕ) (o : Option (List ℕ)) → decoded_target f base (onto 47 o) ≡ decoded_target g base (onto 47 o)
decoded_slash f g base None = refl
decoded_slash f g base (Some t) = ap (λ (l : LinkTarget). cond (is_utf8 (47 ∷ t)) l Bad) (placed_slash f g base t)

-- whatever the first byte spells
spelled_some : (f g base : List ℕ) (c : ℕ) (t : List ℕ) → folder_of f ≡ folder_of g → decoded_target f base (decoded (c ∷ t)) ≡ decoded_target g base (decoded (c ∷ t))
spelled_some f g base c t same =
    ap (decoded_target f base) (decoded_is (c ∷ t)) ∙ go (c == 37) (hex_pair t) ∙ sym (ap (decoded_target g base) (decoded_is (c ∷ t))) where
      go : (b : Bool) (o : Option ℕ)
          → decoded_target f base (cond b (elim o as (λ x. Option (List ℕ)) [ Some byte ↦ onto byte (decoded (drop 2 t)) | None ↦ None ]) (onto c (decoded t)))
          ≡ decoded_target g base (cond b (elim o as (λ x. Option (List ℕ)) [ Some byte ↦ onto byte (decoded (drop 2 t)) | None ↦ None ]) (onto c (decoded t)))
      go true None = refl
      go true (Some byte) = decoded_some f g base byte (decoded (drop 2 t)) same
      go false o = decoded_some f g base c (decoded t) same

spelled_slash : (f g base t : List ℕ) → decoded_target f base (decoded (47 ∷ t)) ≡ decoded_target g base (decoded (47 ∷ t))
spelled_slash f g base t =
    ap (decoded_target f base) (decoded_is (47 ∷ t)) ∙ decoded_slash f g base (decoded t) ∙ sym (ap (decoded_target g base) (decoded_is (47 ∷ t)))

-- two files, of which each has a target for what is said
both_plain : (f g base u v : List ℕ) → without_query u ≡ v → decoded_target f base (decoded v) ≡ decoded_target g base (decoded v) → plain_target f base u ≡ plain_target g base u
both_plain f g base u v e same =
    ap (λ (t : List ℕ). cond (is_foreign u) Outside (decoded_target f base (decoded t))) e
    ∙ ap (λ (l : LinkTarget). cond (is_foreign u) Outside l) same
    ∙ sym (ap (λ (t : List ℕ). cond (is_foreign u) Outside (decoded_target g base (decoded t))) e)

folder_target : (f g base cs : List ℕ) (c : ℕ) → is_one_of (codes "?#") c ≡ false → folder_of f ≡ folder_of g → target f (c ∷ cs) base ≡ target g (c ∷ cs) base
folder_target f g base cs c e same =
    let u = behind c cs in
    ap (plain_target f base) (says_first c cs)
    ∙ both_plain f g base (c ∷ u) (c ∷ without_query u) (some_path c u (ap not e)) (spelled_some f g base c (without_query u) same)
    ∙ sym (ap (plain_target g base) (says_first c cs))

slash_target : (f g base cs : List ℕ) → target f (47 ∷ cs) base ≡ target g (47 ∷ cs) base
slash_target f g base cs =
    let u = behind 47 cs in
    ap (plain_target f base) (says_first 47 cs)
    ∙ both_plain f g base (47 ∷ u) (47 ∷ without_query u) (some_path 47 u refl) (spelled_slash f g base (without_query u))
    ∙ sym (ap (plain_target g base) (says_first 47 cs))

-- ---- notes

-- what was found from a file is right wherever the note says
pub right_note : (has : List ℕ → Bool) (base value : List ℕ) (folder : Bor (List ℕ)) (broken : Bool) (from : List ℕ) → folder_of from ≡ folder.now → broken ≡ is_broken has from value base → IsRight has base value (note_of value folder broken)
right_note has base [] folder broken from here is = λ f. ap (is_unanswered has) (empty_target f base)
right_note has base (c ∷ cs) folder broken from here is = go (c == 47) refl (is_one_of (codes "?#") c) refl where
  go : (a : Bool) → (c == 47) ≡ a → (b : Bool) → is_one_of (codes "?#") c ≡ b → IsRight has base (c ∷ cs) (cond a (Everywhere broken) (cond b OfFile (InFolder folder broken)))
  go true p b q = λ f.
      let slash : c ≡ 47 = grind (arith, p) in
      ap (λ (x : ℕ). is_broken has f (x ∷ cs) base) slash ∙ ap (is_unanswered has) (slash_target f from base cs) ∙ ap (λ (x : ℕ). is_broken has from (x ∷ cs) base) (sym slash) ∙ sym is
  go false p true q = λ f. ap (is_unanswered has) (mark_target f base cs c q)
  go false p false q = λ f there. ap (is_unanswered has) (folder_target f from base cs c q (there ∙ sym here)) ∙ sym is

-- ---- lists of notes

pub unknown_push : (notes : List Note) → ((n : ℕ) → get_or notes n Unknown ≡ Unknown) → (n : ℕ) → get_or (notes ++ Unknown ∷ []) n Unknown ≡ Unknown
unknown_push [] h zero = refl
unknown_push [] h (suc n) = refl
unknown_push (x ∷ notes) h zero = h 0
unknown_push (x ∷ notes) h (suc n) = unknown_push notes (λ m. h (suc m)) n

pub unknown_right : (has : List ℕ → Bool) (base : List ℕ) (values : List (Option (List ℕ))) (notes : List Note) → ((n : ℕ) → get_or notes n Unknown ≡ Unknown) → AreRight has base values notes
unknown_right has base values notes h n value is = subst (IsRight has base value) (sym (h n)) tt

-- a note more that is right
pub noted_right : (has : List ℕ → Bool) (base value : List ℕ) (values : List (Option (List ℕ))) (notes : List Note) (place : ℕ) (note : Note) → AreRight has base values notes → held_at values place ≡ Some value → IsRight has base value note → AreRight has base values (slice_set notes place note)
noted_right has base value values (x ∷ notes) zero note right is one = go values right is where
  go : (vs : List (Option (List ℕ))) → AreRight has base vs (x ∷ notes) → held_at vs zero ≡ Some value → AreRight has base vs (note ∷ notes)
  go vs old here zero u h = subst (λ (w : List ℕ). IsRight has base w note) (same_text value u (sym here ∙ h)) one
  go vs old here (suc n) u h = old (suc n) u h
noted_right has base value [] (x ∷ notes) (suc place) note right is one = absurd (cc (is))
noted_right has base value (v ∷ values) (x ∷ notes) (suc place) note right is one = λ n u h.
    let rest : AreRight has base values (slice_set notes place note) = noted_right has base value values notes place note (λ m w e. right (suc m) w e) is one in
    elim n as (λ m. held_at (v ∷ values) m ≡ Some u → IsRight has base u (get_or (x ∷ slice_set notes place note) m Unknown)) [ zero ↦ λ e. right zero u e | suc m ↦ λ e. rest m u e ] h
noted_right has base value values [] place note right is one = right

pub set_right : (has : List ℕ → Bool) (base value shown : List ℕ) (values : List (Option (List ℕ))) (notes new : List Note) (place : ℕ) (note : Note) → AreRight has base values notes → held_at values place ≡ Some value → shown ≡ value → IsRight has base shown note → new ≡ slice_set notes place note → AreRight has base values new
set_right has base value shown values notes new place note right is same one set =
    subst (AreRight has base values) (sym set) (noted_right has base value values notes place note right is (subst (λ (t : List ℕ). IsRight has base t note) same one))

-- ---- the links of a page, one after another

-- the next link, by its number
pub told_more : (has : List ℕ → Bool) (from base : List ℕ) (old whole new : List Broken) (values : List (Option (List ℕ))) (ns : List ℕ) (ts : List (List ℕ)) (i : ℕ) → AreNumbers values ns ts → i < length ns
    → ((t : List ℕ) → held_at values (get_or ns i 0) ≡ Some t → new ≡ whole ++ told has from base t)
    → whole ≡ old ++ broken_links has from base (take i ts) → new ≡ old ++ broken_links has from base (take (i + 1) ts)
told_more has from base old whole new values ns ts i numbered lt step so_far =
    let t = get_or ts i [] in
    let here = number_at values ns ts i 0 [] numbered lt in
    step t here.1
    ∙ ap (λ (l : List Broken). l ++ told has from base t) so_far
    ∙ flat_map_more (told has from base) old (take i ts) t
    ∙ ap (λ (us : List (List ℕ)). old ++ broken_links has from base us) (sym (take_more ts i [] here.0))
