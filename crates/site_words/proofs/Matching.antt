-- What the getters of the matches tell.
use Rattle.std.proofs.Common.{◌≡◌, ◌∙◌, ℕ, Bool, true, false, refl, sym, ap, List, [], Option, Some, None, Result, Err, inl, inr, ◌⊎◌, ◌≢◌, subst}
use Rattle.std.specs.Prelude.{codes, option_map}
use Rattle.std.specs.List.{list_any}
use Rattle.std.specs.Borrow.{Bor}
use Rattle.clap.specs.Words.{first_of, first_value, found_of, one_of, one_text, rows_of}
use Rattle.clap.specs.declared.parser.matches.Found.{Found}
use Rattle.clap.proofs.WalkLemmas.{first_value-rows, one_text-rows}
use Rattle.clap.specs.Words.{HasKind, fault_of, kind_of, matches_of}
use Rattle.clap.specs.declared.error.Error.{Error}
use Rattle.clap.specs.declared.error.kind.ErrorKind.{ErrorKind}
use Rattle.clap.specs.declared.error.kind.ErrorKind.TheVariants.{OutOfMemory}
use Rattle.clap.specs.declared.parser.matches.ArgMatches.{ArgMatches}
use Rattle.site_words.specs.declared.orders.Options.{Options}
use Rattle.site_words.specs.declared.faults.UsageKind.TheVariants as kind
use Rattle.site_words.specs.declared.faults.WordsError.{WordsError}
use Rattle.site_words.specs.declared.faults.WordsError.TheVariants as error
use Rattle.site_words.specs.Commands.{IsFlag, Tells, options_app}
use Rattle.site_words.specs.Words.{AnswersOptions, Given, Text, options_in, options_of}
use Rattle.site_words.proofs.Parsed.{parses}
use Rattle.site_words.proofs.Walks.{is_dashes}

pub flag_told : (f : Found) (id : List ℕ) (r : Bool) → (one_text f id ≡ None → r ≡ false) → (one_text f id ≡ Some (codes "true") → r ≡ true) → (one_text f id ≡ Some (codes "false") → r ≡ false)
    → (b : Bool) → IsFlag (one_of id (rows_of f)) b → r ≡ b
flag_told f id r none true_so false_so b is = go (one_of id (rows_of f)) (one_text-rows f id) b is
  where
    go : (o : Option (List ℕ)) → one_text f id ≡ o → (b : Bool) → IsFlag o b → r ≡ b
    go None e b is = none e ∙ sym is
    go (Some text) e true is = true_so (e ∙ ap Some is)
    go (Some text) e false is = false_so (e ∙ ap Some is)

pub number_told : (f : Found) (r : Option (Bor (List ℕ))) → option_map (λ s. s.now) r ≡ first_value f (codes "jobs") → option_map (λ s. s.now) r ≡ first_of (codes "jobs") (rows_of f)
number_told f r e = e ∙ first_value-rows f (codes "jobs")

pub taken : (b : Bool) (words : List Text) (m : ArgMatches) (r : Result Options WordsError) → list_any is_dashes words ≡ false → fault_of (options_app b) words ≡ []
    → rows_of (found_of m) ≡ matches_of (options_app b) words → ((g : Given) → Tells (rows_of (found_of m)) g → AnswersOptions (options_of g) r) → AnswersOptions (options_in b words) r
taken b words m r dashes fine rows answers = elim (parses b words dashes) [
  | inl (g, tells, none, means) ↦ subst (λ o. AnswersOptions o r) (sym means) (answers g (subst (λ rs. Tells rs g) (sym rows) tells))
  | inr (bad, means) ↦ absurd (bad fine)
]

pub refused : (b : Bool) (words : List Text) (e : Error) (k : ErrorKind) (r : WordsError) → k ≡ kind_of e → list_any is_dashes words ≡ false → HasKind (fault_of (options_app b) words) e
    → (r ≡ error.Memory) ⊎ ((r ≡ error.Usage kind.Option) × (k ≢ OutOfMemory)) → AnswersOptions (options_in b words) (Err r)
refused b words e k r same dashes has why = elim why [
  | inl is ↦ subst (λ x. AnswersOptions (options_in b words) (Err x)) (sym is) tt
  | inr (is, other) ↦ subst (λ x. AnswersOptions (options_in b words) (Err x)) (sym is) (refl, go other)
]
  where
    go : (k ≢ OutOfMemory) → options_in b words ≡ None
    go other = elim (parses b words dashes) [
      | inr (bad, means) ↦ means
      | inl (g, tells, none, means) ↦ absurd (elim (subst (λ ks. HasKind ks e) none has) [
        | inl memory ↦ other (same ∙ memory)
        | inr among ↦ among
      ])
    ]
