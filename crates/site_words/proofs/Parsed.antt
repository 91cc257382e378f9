-- What a parse of the options answers, and what its matches tell.
use Rattle.std.proofs.Common.{◌≡◌, ◌∙◌, Bool, cond, true, false, refl, sym, ap, ap₂, subst, List, [], ◌∷◌, Option, Some, None, inl, inr, ◌⊎◌, true≢false}
use Rattle.std.specs.Prelude.{codes, is_some, fold, option_and_then, slice_get, ◌||◌}
use Rattle.std.specs.Str.{bytes_eq}
use Rattle.std.specs.List.{list_any}
use Rattle.clap.specs.Walk.{Row, Rule, Text, finished, has_row, more_values, nothing_held, one_of, row_text, walk, with_default, with_values}
use Rattle.clap.specs.Words.{fault_of, is_simple, is_simple_and_free, matches_of}
use Rattle.clap.specs.Simple.{built}
use Rattle.clap.specs.Faults.{check_fault, default_fault, defaults_fault}
use Rattle.clap.specs.Kinds.{Kinds, or_else}
use Rattle.clap.specs.declared.builder.value_parser.Reading.TheVariants as reading
use Rattle.clap.specs.declared.parser.matches.ValueSource.TheVariants.{DefaultValue}
use Rattle.clap.proofs.FaultLemmas.{leaf_fault}
use Rattle.clap.proofs.OnLiterals.{clap_on_literals}
use Rattle.site_words.specs.Commands.{IsFlag, Tells, options_app}
use Rattle.site_words.specs.Words.{Given, nothing_given, options_in, options_of}
use Rattle.site_words.proofs.Parsing.{IsFault, Shows, at_no_row, added_row, faults, flag_row, has_row_is, idle_at, jobs_row, new_row, other_row, row, rows_at, shape}
use Rattle.site_words.proofs.Walks.{is_dashes, walks}

-- ---- defaults

abbrev default_row : Text → Row
default_row id = record { id = id; values = codes "false" ∷ []; count = None; source = Some DefaultValue; reading = reading.AsWritten }

-- the rows with a flag that was not given
abbrev filled_in : Text → List Row → List Row
filled_in id rows = cond (has_row id rows) rows (with_values id reading.AsWritten DefaultValue (codes "false" ∷ []) rows)

filled_row : (id : Text) (rows : List Row) (b : Bool) → bytes_eq id id ≡ true → row id rows ≡ flag_row id b
    → row id (filled_in id rows) ≡ Some (cond b (new_row id (codes "true" ∷ [])) (default_row id))
filled_row id rows true same e = ap (λ t. row id (cond t rows (with_values id reading.AsWritten DefaultValue (codes "false" ∷ []) rows))) (has_row_is id rows ∙ ap is_some e) ∙ e
filled_row id rows false same e =
    ap (λ t. row id (cond t rows (with_values id reading.AsWritten DefaultValue (codes "false" ∷ []) rows))) (has_row_is id rows ∙ ap is_some e)
    ∙ ap (row id) (at_no_row id (more_values DefaultValue (codes "false" ∷ [])) (default_row id ∷ []) rows e) ∙ added_row id rows (default_row id) same e

filled_other : (id x : Text) (rows : List Row) → bytes_eq id x ≡ false → row x (filled_in id rows) ≡ row x rows
filled_other id x rows apart = go (row id rows) refl
  where
    go : (o : Option Row) → row id rows ≡ o → row x (filled_in id rows) ≡ row x rows
    go (Some r) e = ap (λ t. row x (cond t rows (with_values id reading.AsWritten DefaultValue (codes "false" ∷ []) rows))) (has_row_is id rows ∙ ap is_some e)
    go None e =
        ap (λ t. row x (cond t rows (with_values id reading.AsWritten DefaultValue (codes "false" ∷ []) rows))) (has_row_is id rows ∙ ap is_some e)
        ∙ ap (row x) (at_no_row id (more_values DefaultValue (codes "false" ∷ [])) (default_row id ∷ []) rows e) ∙ other_row x rows (default_row id) apart

-- ---- what the matches tell

flag_text : (id : Text) (b : Bool) → IsFlag (row_text (cond b (new_row id (codes "true" ∷ [])) (default_row id))) b
flag_text id true = refl
flag_text id false = refl

-- the flag of a row, or of none
flag_is : (rows : List Row) (id : Text) (o : Option Row) (b : Bool) → row id rows ≡ o → IsFlag (option_and_then row_text o) b → IsFlag (one_of id rows) b
flag_is rows id o b e h = subst (λ x. IsFlag (option_and_then row_text x) b) (sym e) h

jobs_text : (o : Option Text) → option_and_then (λ (r : Row). slice_get r.values 0) (jobs_row o) ≡ o
jobs_text None = refl
jobs_text (Some number) = refl

either : {X : Type 0} (t : Bool) (x : X) → cond t x x ≡ x
either true x = refl
either false x = refl

settings_rows : (rows : List Row) → fold with_default rows (shape false).rules ≡ filled_in (codes "future") (filled_in (codes "drafts") rows)
settings_rows rows = refl

abbrev with_settings : List Row → List Row
with_settings rows = filled_in (codes "future") (filled_in (codes "drafts") rows)

all_rows : (rows : List Row) → fold with_default rows (shape true).rules ≡ filled_in (codes "why") (filled_in (codes "future") (filled_in (codes "drafts") rows))
all_rows rows =
    let before : List Row = filled_in (codes "future") (filled_in (codes "drafts") rows) in
    ap (filled_in (codes "why")) (either (has_row (codes "jobs") before) before)

tells : (b : Bool) (rows : List Row) (g : Given) → Shows rows g → Tells (fold with_default rows (shape b).rules) g
tells false rows g h = record {
  drafts = flag_is (filled_in (codes "future") (filled_in (codes "drafts") rows)) (codes "drafts") _ g.drafts
      (filled_other (codes "future") (codes "drafts") (filled_in (codes "drafts") rows) refl ∙ filled_row (codes "drafts") rows g.drafts refl h.drafts) (flag_text (codes "drafts") g.drafts);
  future = flag_is (filled_in (codes "future") (filled_in (codes "drafts") rows)) (codes "future") _ g.future
      (filled_row (codes "future") (filled_in (codes "drafts") rows) g.future refl (filled_other (codes "drafts") (codes "future") rows refl ∙ h.future)) (flag_text (codes "future") g.future);
  why = flag_is (filled_in (codes "future") (filled_in (codes "drafts") rows)) (codes "why") (flag_row (codes "why") g.why) g.why
      (filled_other (codes "future") (codes "why") (filled_in (codes "drafts") rows) refl ∙ filled_other (codes "drafts") (codes "why") rows refl ∙ h.why) (unlisted g.why);
  jobs = ap (option_and_then (λ (r : Row). slice_get r.values 0)) (filled_other (codes "future") (codes "jobs") (filled_in (codes "drafts") rows) refl ∙ filled_other (codes "drafts") (codes "jobs") rows refl ∙ h.jobs) ∙ jobs_text g.jobs;
}
  where
    unlisted : (b : Bool) → IsFlag (option_and_then row_text (flag_row (codes "why") b)) b
    unlisted true = refl
    unlisted false = refl
tells true rows g h = subst (λ rs. Tells rs g) (sym (all_rows rows)) (record {
  drafts = flag_is (filled_in (codes "why") (with_settings rows)) (codes "drafts") _ g.drafts
      (filled_other (codes "why") (codes "drafts") (with_settings rows) refl ∙ filled_other (codes "future") (codes "drafts") (filled_in (codes "drafts") rows) refl ∙ filled_row (codes "drafts") rows g.drafts refl h.drafts) (flag_text (codes "drafts") g.drafts);
  future = flag_is (filled_in (codes "why") (with_settings rows)) (codes "future") _ g.future
      (filled_other (codes "why") (codes "future") (with_settings rows) refl ∙ filled_row (codes "future") (filled_in (codes "drafts") rows) g.future refl (filled_other (codes "drafts") (codes "future") rows refl ∙ h.future)) (flag_text (codes "future") g.future);
  why = flag_is (filled_in (codes "why") (with_settings rows)) (codes "why") _ g.why
      (filled_row (codes "why") (with_settings rows) g.why refl (filled_other (codes "future") (codes "why") (filled_in (codes "drafts") rows) refl ∙ filled_other (codes "drafts") (codes "why") rows refl ∙ h.why)) (flag_text (codes "why") g.why);
  jobs = ap (option_and_then (λ (r : Row). slice_get r.values 0)) (filled_other (codes "why") (codes "jobs") (with_settings rows) refl ∙ filled_other (codes "future") (codes "jobs") (filled_in (codes "drafts") rows) refl ∙ filled_other (codes "drafts") (codes "jobs") rows refl ∙ h.jobs) ∙ jobs_text g.jobs;
})

-- ---- the last steps have no fault

defaults_after : (a : Rule) (rest : List Rule) → ((rows : List Row) → default_fault rows a ≡ []) → ((rows : List Row) → defaults_fault rows rest ≡ [])
    → (rows : List Row) → defaults_fault rows (a ∷ rest) ≡ []
unfolding clap_on_literals
defaults_after a rest now later rows = ap₂ or_else (now rows) (later (with_default rows a))

no_defaults : (rows : List Row) → defaults_fault rows [] ≡ []
unfolding clap_on_literals
no_defaults rows = refl

defaults_fine : (b : Bool) (rows : List Row) → defaults_fault rows (shape b).rules ≡ []
defaults_fine true =
    defaults_after _ _ (λ rows. either (has_row (codes "drafts") rows || false) []) (defaults_after _ _ (λ rows. either (has_row (codes "future") rows || false) [])
    (defaults_after _ _ (λ rows. either (has_row (codes "jobs") rows || true) []) (defaults_after _ _ (λ rows. either (has_row (codes "why") rows || false) []) no_defaults)))
defaults_fine false =
    defaults_after _ _ (λ rows. either (has_row (codes "drafts") rows || false) []) (defaults_after _ _ (λ rows. either (has_row (codes "future") rows || false) []) no_defaults)

check_fine : (b : Bool) (rows : List Row) → check_fault (shape b) rows false ≡ []
check_fine true rows = refl
check_fine false rows = refl

or_else_nil : (kinds : Kinds) → or_else kinds [] ≡ kinds
or_else_nil [] = refl
or_else_nil (k ∷ ks) = refl

fault_is : (b : Bool) (words : List Text) → fault_of (options_app b) words ≡ faults b (idle_at [] None) words
fault_is true words = leaf_fault (built (options_app true)) nothing_held words refl ∙ ap (or_else _) (ap (or_else _) (ap₂ or_else (defaults_fine true _) (check_fine true (finished (built (options_app true)).top.rules (walk (built (options_app true)).top.rules [] nothing_held words).held))) ∙ or_else_nil _)
fault_is false words = leaf_fault (built (options_app false)) nothing_held words refl ∙ ap (or_else _) (ap (or_else _) (ap₂ or_else (defaults_fine false _) (check_fine false (finished (built (options_app false)).top.rules (walk (built (options_app false)).top.rules [] nothing_held words).held))) ∙ or_else_nil _)

matches_are : (b : Bool) (words : List Text) → matches_of (options_app b) words ≡ fold with_default (rows_at b (idle_at [] None) words) (shape b).rules
matches_are true words = refl
matches_are false words = refl

-- ---- the whole

abbrev pub Parses : Bool → List Text → Type 0
Parses b words = ((g : Given) × Tells (matches_of (options_app b) words) g × (fault_of (options_app b) words ≡ []) × (options_in b words ≡ options_of g))
    ⊎ (IsFault (fault_of (options_app b) words) × (options_in b words ≡ None))

nothing_shown : Shows [] nothing_given
nothing_shown = record { drafts = refl; future = refl; why = refl; jobs = refl }

pub parses : (b : Bool) (words : List Text) → list_any is_dashes words ≡ false → Parses b words
parses b words dashes = elim (walks b words [] None nothing_given nothing_shown (λ e. absurd (true≢false (sym e))) dashes) [
  | inl (g, shown, fine, means) ↦ inl (g, subst (λ rs. Tells rs g) (sym (matches_are b words)) (tells b (rows_at b (idle_at [] None) words) g shown), fault_is b words ∙ fine, means)
  | inr (bad, means) ↦ inr ((λ e. bad (sym (fault_is b words) ∙ e)), means)
]

pub simple : (b : Bool) → is_simple (options_app b) ≡ true
simple true = refl
simple false = refl

pub simple_and_free : (b : Bool) → is_simple_and_free (options_app b) ≡ true
simple_and_free true = refl
simple_and_free false = refl
