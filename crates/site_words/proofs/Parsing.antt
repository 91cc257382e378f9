-- What the parser of command lines makes of the words that are options.
use Rattle.std.proofs.Common.{◌≡◌, ◌∙◌, ℕ, Bool, cond, true, false, zero, suc, refl, sym, ap, ap₂, subst, List, [], ◌∷◌, ◌++◌, length, Option, Some, None, inl, inr, ◌⊎◌, true≢false, append-nil}
use Rattle.std.specs.Prelude.{codes, is_some, find, fold, option_map, option_and_then, slice_get, ◌&&◌, ◌||◌}
use Rattle.std.specs.Str.{bytes_eq, chars}
use Rattle.clap.specs.Walk.{Held, Row, Rule, Text, Walk, at_row, has_row, option, settled, walk, walk_from, walked, arg_by_long, takes_values, with_values, without, more_values}
use Rattle.clap.specs.Simple.{Shape, built}
use Rattle.clap.specs.Faults.{long_fault, option_fault, react_fault, settle_fault, turn_fault, walk_fault}
use Rattle.clap.specs.Kinds.{Kinds, or_else}
use Rattle.clap.specs.declared.builder.value_parser.Reading.TheVariants as reading
use Rattle.clap.specs.declared.parser.matches.ValueSource.TheVariants.{CommandLine}
use Rattle.clap.specs.declared.error.kind.ErrorKind.{ErrorKind}
use Rattle.clap.specs.declared.error.kind.ErrorKind.TheVariants as kind
use Rattle.clap.proofs.OnLiterals.{clap_on_literals}
use Rattle.site_words.specs.declared.orders.Options.{Options}
use Rattle.clap.specs.Lexer.{long_of, short_of}
use Rattle.site_words.specs.Numbers.{number_in}
use Rattle.site_words.proofs.Lexing.{long_is_no_number, short_is_no_number}
use Rattle.site_words.specs.Commands.{jobs_app, settings_app}
use Rattle.site_words.specs.Words.{Given, first_time, options_of, with_jobs, with_word, with_words}

abbrev pub shape : Bool → Shape
shape true = (built jobs_app).top
shape false = (built settings_app).top

-- ---- rows

abbrev pub row : Text → List Row → Option Row
row id rows = find (λ r. bytes_eq r.id id) rows

pub has_row_is : (id : Text) (rows : List Row) → has_row id rows ≡ is_some (row id rows)
has_row_is id [] = refl
has_row_is id (r ∷ rows) = go (bytes_eq r.id id) (has_row_is id rows)
  where
    go : (b : Bool) → has_row id rows ≡ is_some (row id rows) → (b || has_row id rows) ≡ is_some (cond b (Some r) (row id rows))
    go true e = refl
    go false e = e

pub some≢none : {X : Type 0} (x : X) → Some x ≡ None → ⊥
some≢none x e = true≢false (ap is_some e)

-- where an id has no row, a change of its row adds one
pub at_no_row : (id : Text) (change : Row → List Row) (missing : List Row) (rows : List Row) → row id rows ≡ None → at_row id change missing rows ≡ rows ++ missing
at_no_row id change missing [] e = refl
at_no_row id change missing (r ∷ rows) e = go (bytes_eq r.id id) e (at_no_row id change missing rows)
  where
    go : (b : Bool) → cond b (Some r) (row id rows) ≡ None → (row id rows ≡ None → at_row id change missing rows ≡ rows ++ missing)
        → cond b (change r ++ rows) (r ∷ at_row id change missing rows) ≡ r ∷ (rows ++ missing)
    go true e h = absurd (some≢none r e)
    go false e h = ap (λ rs. r ∷ rs) (h e)

abbrev pub new_row : Text → List Text → Row
new_row id values = record { id = id; values = values; count = None; source = Some CommandLine; reading = reading.AsWritten }

-- the first use of an option adds its row
first_use : (id : Text) (values : List Text) (rows : List Row) → row id rows ≡ None
    → with_values id reading.AsWritten CommandLine values (without id rows) ≡ rows ++ new_row id values ∷ []
first_use id values rows e =
    ap (with_values id reading.AsWritten CommandLine values) (at_no_row id (λ _. []) [] rows e ∙ append-nil rows)
    ∙ at_no_row id (more_values CommandLine values) (new_row id values ∷ []) rows e

pub other_row : (id : Text) (rows : List Row) (r : Row) → bytes_eq r.id id ≡ false → row id (rows ++ r ∷ []) ≡ row id rows
other_row id [] r e = ap (λ b. cond b (Some r) None) e
other_row id (x ∷ rows) r e = ap (cond (bytes_eq x.id id) (Some x)) (other_row id rows r e)

pub added_row : (id : Text) (rows : List Row) (r : Row) → bytes_eq r.id id ≡ true → row id rows ≡ None → row id (rows ++ r ∷ []) ≡ Some r
added_row id [] r e none = ap (λ b. cond b (Some r) None) e
added_row id (x ∷ rows) r e none = go (bytes_eq x.id id) none (added_row id rows r e)
  where
    go : (b : Bool) → cond b (Some x) (row id rows) ≡ None → (row id rows ≡ None → row id (rows ++ r ∷ []) ≡ Some r) → cond b (Some x) (row id (rows ++ r ∷ [])) ≡ Some r
    go true e h = absurd (some≢none x e)
    go false e h = h e

-- ---- rows that show which options were given

abbrev pub flag_row : Text → Bool → Option Row
flag_row id b = cond b (Some (new_row id (codes "true" ∷ []))) None

abbrev pub jobs_row : Option Text → Option Row
jobs_row = option_map (λ number. new_row (codes "jobs") (number ∷ []))

pub record Shows (rows : List Row) (g : Given) : Type 0 where
  pub drafts : row (codes "drafts") rows ≡ flag_row (codes "drafts") g.drafts
  pub future : row (codes "future") rows ≡ flag_row (codes "future") g.future
  pub why : row (codes "why") rows ≡ flag_row (codes "why") g.why
  pub jobs : row (codes "jobs") rows ≡ jobs_row g.jobs

shows_drafts : (rows : List Row) (g : Given) → Shows rows g → g.drafts ≡ false → Shows (rows ++ new_row (codes "drafts") (codes "true" ∷ []) ∷ []) (record g { drafts = true })
shows_drafts rows g h e = record {
  drafts = added_row _ rows _ refl (h.drafts ∙ ap (flag_row (codes "drafts")) e);
  future = other_row _ rows _ refl ∙ h.future;
  why = other_row _ rows _ refl ∙ h.why;
  jobs = other_row _ rows _ refl ∙ h.jobs;
}

shows_future : (rows : List Row) (g : Given) → Shows rows g → g.future ≡ false → Shows (rows ++ new_row (codes "future") (codes "true" ∷ []) ∷ []) (record g { future = true })
shows_future rows g h e = record {
  drafts = other_row _ rows _ refl ∙ h.drafts;
  future = added_row _ rows _ refl (h.future ∙ ap (flag_row (codes "future")) e);
  why = other_row _ rows _ refl ∙ h.why;
  jobs = other_row _ rows _ refl ∙ h.jobs;
}

shows_why : (rows : List Row) (g : Given) → Shows rows g → g.why ≡ false → Shows (rows ++ new_row (codes "why") (codes "true" ∷ []) ∷ []) (record g { why = true })
shows_why rows g h e = record {
  drafts = other_row _ rows _ refl ∙ h.drafts;
  future = other_row _ rows _ refl ∙ h.future;
  why = added_row _ rows _ refl (h.why ∙ ap (flag_row (codes "why")) e);
  jobs = other_row _ rows _ refl ∙ h.jobs;
}

shows_jobs : (rows : List Row) (g : Given) (number : Text) → Shows rows g → g.jobs ≡ None → Shows (rows ++ new_row (codes "jobs") (number ∷ []) ∷ []) (record g { jobs = Some number })
shows_jobs rows g number h e = record {
  drafts = other_row _ rows _ refl ∙ h.drafts;
  future = other_row _ rows _ refl ∙ h.future;
  why = other_row _ rows _ refl ∙ h.why;
  jobs = added_row _ rows _ refl (h.jobs ∙ ap jobs_row e);
}

-- ---- faults, one behind the other

or_else_in_turn : (a b c : Kinds) → or_else (or_else a b) c ≡ or_else a (or_else b c)
or_else_in_turn [] b c = refl
or_else_in_turn (k ∷ ks) b c = refl

pub or_else_none : (a b : Kinds) → or_else a b ≡ [] → (a ≡ []) × (b ≡ [])
or_else_none [] b e = (refl, e)
or_else_none (k ∷ ks) b e = absurd (some≢none k (ap (λ xs. slice_get xs 0) e))

abbrev pub IsFault : Kinds → Type 0
IsFault kinds = kinds ≡ [] → ⊥

pub is_fault : (k : ErrorKind) (ks : Kinds) → IsFault (k ∷ ks)
is_fault k ks e = some≢none k (ap (λ xs. slice_get xs 0) e)

-- ---- the walk over the words

-- what is held between two words where no word waits: the rows, and the number of `--jobs` that is not a row yet
abbrev pub held : List Row → Option Text → Held
held rows None = record { rows = rows; pending = None; skip = 0 }
held rows (Some number) = record { rows = rows; pending = Some (codes "jobs", number ∷ []); skip = 0 }

-- the options given, with that number
abbrev pub meant : Given → Option Text → Option Given
meant g None = Some g
meant g (Some number) = with_jobs g number

abbrev pub settled_at : Bool → List Row → Option Text → List Row
settled_at b rows p = (settled (shape b).rules (held rows p)).rows

abbrev pub settle_at : Bool → List Row → Option Text → Kinds
settle_at b rows p = settle_fault (shape b).rules false (held rows p)

abbrev pub Settles : Bool → List Row → Option Text → Given → Type 0
Settles b rows p g = ((new : Given) × (meant g p ≡ Some new) × (settle_at b rows p ≡ []) × Shows (settled_at b rows p) new)
    ⊎ ((meant g p ≡ None) × IsFault (settle_at b rows p))

-- the fault of a second use
abbrev second_use : Bool → Kinds
second_use b = or_else (cond (b && true) (kind.ArgumentConflict ∷ []) []) []

pub settle : (b : Bool) (rows : List Row) (p : Option Text) (g : Given) → Shows rows g → (is_some p ≡ true → b ≡ true) → Settles b rows p g
settle b rows None g h many = inl (g, refl, refl, h)
settle false rows (Some number) g h many = absurd (true≢false (sym (many refl)))
settle true rows (Some number) g h many = go g.jobs refl
  where
    fault : settle_at true rows (Some number) ≡ second_use (is_some g.jobs)
    fault = ap second_use (has_row_is (codes "jobs") rows ∙ ap is_some h.jobs ∙ sym (jobs_some g.jobs))
      where
        jobs_some : (o : Option Text) → is_some o ≡ is_some (jobs_row o)
        jobs_some None = refl
        jobs_some (Some n) = refl

    go : (o : Option Text) → g.jobs ≡ o → Settles true rows (Some number) g
    go None e =
        inl (
          record g { jobs = Some number },
          ap (λ o. first_time (is_some o) (record g { jobs = Some number })) e,
          fault ∙ ap (λ o. second_use (is_some o)) e,
          subst (λ rs. Shows rs (record g { jobs = Some number })) (sym (first_use (codes "jobs") (number ∷ []) rows (h.jobs ∙ ap jobs_row e)))
              (shows_jobs rows g number h e),
        )
    go (Some n) e = inr (ap (λ o. first_time (is_some o) (record g { jobs = Some number })) e, λ none. is_fault _ _ (sym (fault ∙ ap (λ o. second_use (is_some o)) e) ∙ none))

abbrev pub last : Bool → Walk → List Text → Held
last b w words = (fold (walked (shape b).rules []) w words).held

abbrev pub faults : Bool → Walk → List Text → Kinds
faults b w words = or_else (walk_fault (shape b) [] w words) (settle_fault (shape b).rules false (last b w words))

abbrev pub rows_at : Bool → Walk → List Text → List Row
rows_at b w words = (settled (shape b).rules (last b w words)).rows

-- from a walk on, the words have no fault and the rows show the options, or the options are none
abbrev pub Goes : Bool → Walk → List Text → Option Options → Type 0
Goes b w words r = ((g : Given) × Shows (rows_at b w words) g × (faults b w words ≡ []) × (r ≡ options_of g))
    ⊎ (IsFault (faults b w words) × (r ≡ None))

faults_after : (b : Bool) (w : Walk) (word : Text) (rest : List Text)
    → faults b w (word ∷ rest) ≡ or_else (turn_fault (shape b) [] w word) (faults b (walked (shape b).rules [] w word) rest)
unfolding walk_fault
faults_after b w word rest =
    or_else_in_turn (turn_fault (shape b) [] w word) (walk_fault (shape b) [] (walked (shape b).rules [] w word) rest)
    (settle_fault (shape b).rules false (last b w (word ∷ rest)))

pub goes_on : (b : Bool) (w : Walk) (word : Text) (rest : List Text) (r : Option Options) (next : Walk) → walked (shape b).rules [] w word ≡ next
    → turn_fault (shape b) [] w word ≡ [] → Goes b next rest r → Goes b w (word ∷ rest) r
goes_on b w word rest r next is none goes =
    let same : faults b w (word ∷ rest) ≡ faults b (walked (shape b).rules [] w word) rest =
    faults_after b w word rest ∙ ap (λ k. or_else k (faults b (walked (shape b).rules [] w word) rest)) none in
    elim (subst (λ n. Goes b n rest r) (sym is) goes) [
      | inl (g, shows, fine, means) ↦ inl (g, shows, same ∙ fine, means)
      | inr (bad, means) ↦ inr ((λ e. bad (sym same ∙ e)), means)
    ]

pub fails : (b : Bool) (w : Walk) (word : Text) (rest : List Text) (r : Option Options) → IsFault (turn_fault (shape b) [] w word) → r ≡ None → Goes b w (word ∷ rest) r
fails b w word rest r bad means = inr ((λ e. bad (or_else_none (turn_fault (shape b) [] w word) (faults b (walked (shape b).rules [] w word) rest) (sym (faults_after b w word rest) ∙ e)).0), means)

abbrev pub idle_at : List Row → Option Text → Walk
idle_at rows p = walk_from (held rows p)

abbrev pub read : Bool → Option Given → List Text → Option Options
read b o words = option_and_then options_of (option_and_then (λ g. with_words b g words) o)

-- the definition goes on word by word, where the word is not `--jobs`
pub one_word : (b : Bool) (g : Given) (word : Text) (rest : List Text) → (b && bytes_eq word (codes "--jobs")) ≡ false
    → with_words b g (word ∷ rest) ≡ option_and_then (λ h. with_words b h rest) (with_word b g word)
one_word b g word [] e = go (with_word b g word)
  where
    go : (o : Option Given) → o ≡ option_and_then (λ h. with_words b h []) o
    go None = refl
    go (Some h) = refl
one_word b g word (next ∷ rest) e = ap (λ t. cond t (option_and_then (λ h. with_words b h rest) (with_jobs g next)) (option_and_then (λ h. with_words b h (next ∷ rest)) (with_word b g word))) e

abbrev pub Next : Bool → List Text → Type 0
Next b rest = (rows : List Row) (g : Given) → Shows rows g → Goes b (idle_at rows None) rest (read b (Some g) rest)

-- a word that is an option with all that it needs
option_word : (b : Bool) (word id : Text) (values : List Text) (is_given : Given → Bool) (set : Given → Given) (rows : List Row) (p : Option Text) (g : Given) (rest : List Text)
    → turn_fault (shape b) [] (idle_at rows p) word ≡ or_else (or_else (settle_at b rows p) (second_use (has_row id (settled_at b rows p)))) []
    → walked (shape b).rules [] (idle_at rows p) word ≡ idle_at (with_values id reading.AsWritten CommandLine values (without id (settled_at b rows p))) None
    → ((new : Given) → with_words b new (word ∷ rest) ≡ option_and_then (λ h. with_words b h rest) (first_time (is_given new) (set new)))
    → ((new : Given) → Shows (settled_at b rows p) new → is_some (row id (settled_at b rows p)) ≡ is_given new)
    → ((new : Given) → Shows (settled_at b rows p) new → row id (settled_at b rows p) ≡ None → is_given new ≡ false → Shows (settled_at b rows p ++ new_row id values ∷ []) (set new))
    → Settles b rows p g → Next b rest → Goes b (idle_at rows p) (word ∷ rest) (read b (meant g p) (word ∷ rest))
option_word b word id values is_given set rows p g rest turn walk spec given shows settles next = elim settles [
  | inr (none, bad) ↦ fails b _ word rest _ (λ e. bad (or_else_none (settle_at b rows p) (second_use (has_row id (settled_at b rows p))) (or_else_none (or_else (settle_at b rows p) (second_use (has_row id (settled_at b rows p)))) [] (sym turn ∙ e)).0).0) (ap (λ o. read b o (word ∷ rest)) none)
  | inl (new, is, fine, shown) ↦ go new is fine shown (is_given new) refl
]
  where
    go : (new : Given) → meant g p ≡ Some new → settle_at b rows p ≡ [] → Shows (settled_at b rows p) new → (t : Bool) → is_given new ≡ t
        → Goes b (idle_at rows p) (word ∷ rest) (read b (meant g p) (word ∷ rest))
    go new is fine shown true e =
        let has : has_row id (settled_at b rows p) ≡ true = has_row_is id (settled_at b rows p) ∙ given new shown ∙ e in
        let fault : turn_fault (shape b) [] (idle_at rows p) word ≡ kind.ArgumentConflict ∷ [] = turn ∙ ap₂ (λ a t. or_else (or_else a (second_use t)) []) fine has in
        fails b _ word rest _ (λ none. is_fault _ _ (sym fault ∙ none))
        (ap (λ o. read b o (word ∷ rest)) is ∙ ap (option_and_then options_of) (spec new) ∙ ap (λ t. option_and_then options_of (option_and_then (λ h. with_words b h rest) (first_time t (set new)))) e)
    go new is fine shown false e =
        let no_row : row id (settled_at b rows p) ≡ None = none_of (row id (settled_at b rows p)) (given new shown ∙ e) in
        let has : has_row id (settled_at b rows p) ≡ false = has_row_is id (settled_at b rows p) ∙ given new shown ∙ e in
        let none : turn_fault (shape b) [] (idle_at rows p) word ≡ [] = turn ∙ ap₂ (λ a t. or_else (or_else a (second_use t)) []) fine has in
        let same : read b (meant g p) (word ∷ rest) ≡ read b (Some (set new)) rest =
        ap (λ o. read b o (word ∷ rest)) is ∙ ap (option_and_then options_of) (spec new) ∙ ap (λ t. option_and_then options_of (option_and_then (λ h. with_words b h rest) (first_time t (set new)))) e in
        subst (Goes b (idle_at rows p) (word ∷ rest)) (sym same)
        (goes_on b _ word rest _ _ (walk ∙ ap (λ rs. idle_at rs None) (first_use id values (settled_at b rows p) no_row)) none (next _ (set new) (shows new shown no_row e)))
      where
        none_of : (o : Option Row) → is_some o ≡ false → o ≡ None
        none_of None e = refl
        none_of (Some r) e = absurd (true≢false e)

-- ---- each option

abbrev flag_turn : Bool → Text → Text → Type 0
flag_turn b word id = (rows : List Row) (p : Option Text)
    → (turn_fault (shape b) [] (idle_at rows p) word ≡ or_else (or_else (settle_at b rows p) (second_use (has_row id (settled_at b rows p)))) [])
    × (walked (shape b).rules [] (idle_at rows p) word ≡ idle_at (with_values id reading.AsWritten CommandLine (codes "true" ∷ []) (without id (settled_at b rows p))) None)

drafts_turn : (b : Bool) → flag_turn b (codes "--drafts") (codes "drafts")
unfolding clap_on_literals
drafts_turn true rows None = (refl, refl)
drafts_turn true rows (Some n) = (refl, refl)
drafts_turn false rows None = (refl, refl)
drafts_turn false rows (Some n) = (refl, refl)

future_turn : (b : Bool) → flag_turn b (codes "--future") (codes "future")
unfolding clap_on_literals
future_turn true rows None = (refl, refl)
future_turn true rows (Some n) = (refl, refl)
future_turn false rows None = (refl, refl)
future_turn false rows (Some n) = (refl, refl)

why_turn : flag_turn true (codes "--why") (codes "why")
unfolding clap_on_literals
why_turn rows None = (refl, refl)
why_turn rows (Some n) = (refl, refl)

jobs_is_turn : (number : Text) (rows : List Row) (p : Option Text)
    → (turn_fault (shape true) [] (idle_at rows p) (codes "--jobs=" ++ number) ≡ or_else (or_else (settle_at true rows p) (second_use (has_row (codes "jobs") (settled_at true rows p)))) [])
    × (walked (shape true).rules [] (idle_at rows p) (codes "--jobs=" ++ number) ≡ idle_at (with_values (codes "jobs") reading.AsWritten CommandLine (number ∷ []) (without (codes "jobs") (settled_at true rows p))) None)
unfolding clap_on_literals
jobs_is_turn number rows None = (refl, refl)
jobs_is_turn number rows (Some n) = (refl, refl)

-- the walk after `--jobs` alone
abbrev pub waits_at : List Row → Walk
waits_at rows = record {
  held = record { rows = rows; pending = Some (codes "jobs", []); skip = 0 };
  waiting = option (codes "jobs");
  position = 1;
  is_trailing = false;
  stopped = None;
}

pub jobs_turn : (rows : List Row) (p : Option Text)
    → (turn_fault (shape true) [] (idle_at rows p) (codes "--jobs") ≡ or_else (settle_at true rows p) [])
    × (walked (shape true).rules [] (idle_at rows p) (codes "--jobs") ≡ waits_at (settled_at true rows p))
unfolding clap_on_literals
jobs_turn rows None = (refl, refl)
jobs_turn rows (Some n) = (refl, refl)

pub no_number : (rows : List Row) → faults true (waits_at rows) [] ≡ kind.InvalidValue ∷ []
unfolding clap_on_literals
no_number rows = refl

flag_given : (id : Text) (rows : List Row) (b : Bool) → row id rows ≡ flag_row id b → is_some (row id rows) ≡ b
flag_given id rows b e = ap is_some e ∙ go b
  where
    go : (b : Bool) → is_some (flag_row id b) ≡ b
    go true = refl
    go false = refl

jobs_given : (o : Option Text) → is_some (jobs_row o) ≡ is_some o
jobs_given None = refl
jobs_given (Some n) = refl

pub drafts_word : (b : Bool) (rows : List Row) (p : Option Text) (g : Given) (rest : List Text) → Settles b rows p g → Next b rest
    → Goes b (idle_at rows p) (codes "--drafts" ∷ rest) (read b (meant g p) (codes "--drafts" ∷ rest))
drafts_word b rows p g rest =
    option_word b (codes "--drafts") (codes "drafts") (codes "true" ∷ []) (λ g. g.drafts) (λ g. record g { drafts = true }) rows p g rest
    (drafts_turn b rows p).0 (drafts_turn b rows p).1 (λ new. one_word b new (codes "--drafts") rest (none b))
    (λ new h. flag_given (codes "drafts") (settled_at b rows p) new.drafts h.drafts) (λ new h no_row e. shows_drafts (settled_at b rows p) new h e)
  where
    none : (b : Bool) → (b && false) ≡ false
    none true = refl
    none false = refl

pub future_word : (b : Bool) (rows : List Row) (p : Option Text) (g : Given) (rest : List Text) → Settles b rows p g → Next b rest
    → Goes b (idle_at rows p) (codes "--future" ∷ rest) (read b (meant g p) (codes "--future" ∷ rest))
future_word b rows p g rest =
    option_word b (codes "--future") (codes "future") (codes "true" ∷ []) (λ g. g.future) (λ g. record g { future = true }) rows p g rest
    (future_turn b rows p).0 (future_turn b rows p).1 (λ new. one_word b new (codes "--future") rest (none b))
    (λ new h. flag_given (codes "future") (settled_at b rows p) new.future h.future) (λ new h no_row e. shows_future (settled_at b rows p) new h e)
  where
    none : (b : Bool) → (b && false) ≡ false
    none true = refl
    none false = refl

pub why_word : (rows : List Row) (p : Option Text) (g : Given) (rest : List Text) → Settles true rows p g → Next true rest
    → Goes true (idle_at rows p) (codes "--why" ∷ rest) (read true (meant g p) (codes "--why" ∷ rest))
why_word rows p g rest =
    option_word true (codes "--why") (codes "why") (codes "true" ∷ []) (λ g. g.why) (λ g. record g { why = true }) rows p g rest
    (why_turn rows p).0 (why_turn rows p).1 (λ new. one_word true new (codes "--why") rest refl)
    (λ new h. flag_given (codes "why") (settled_at true rows p) new.why h.why) (λ new h no_row e. shows_why (settled_at true rows p) new h e)

pub jobs_is_word : (number : Text) (rows : List Row) (p : Option Text) (g : Given) (rest : List Text) → Settles true rows p g → Next true rest
    → Goes true (idle_at rows p) ((codes "--jobs=" ++ number) ∷ rest) (read true (meant g p) ((codes "--jobs=" ++ number) ∷ rest))
jobs_is_word number rows p g rest =
    option_word true (codes "--jobs=" ++ number) (codes "jobs") (number ∷ []) (λ g. is_some g.jobs) (λ g. record g { jobs = Some number }) rows p g rest
    (jobs_is_turn number rows p).0 (jobs_is_turn number rows p).1 (λ new. one_word true new (codes "--jobs=" ++ number) rest refl)
    (λ new h. ap is_some h.jobs ∙ jobs_given new.jobs) (λ new h no_row e. shows_jobs (settled_at true rows p) new number h (none_of new.jobs e))
  where
    none_of : (o : Option Text) → is_some o ≡ false → o ≡ None
    none_of None e = refl
    none_of (Some r) e = absurd (true≢false e)

-- ---- the word after `--jobs`

long_waits : (rows : List Row) (a : Option Rule) (value : Option Text) → IsFault (long_fault (shape true).rules false a value (waits_at rows).held)
unfolding clap_on_literals
long_waits rows None value = is_fault _ _
long_waits rows (Some a) value = go (takes_values a) value
  where
    go : (b : Bool) (value : Option Text)
        → IsFault (cond b (option_fault (shape true).rules false a value (waits_at rows).held) (cond (is_some value) (kind.TooManyValues ∷ []) (react_fault (shape true).rules false a [] (waits_at rows).held)))
    go true None = is_fault _ _
    go true (Some v) = is_fault _ _
    go false None = is_fault _ _
    go false (Some v) = is_fault _ _

abbrev pub Value : List Row → Text → Type 0
Value rows word = ((turn_fault (shape true) [] (waits_at rows) word ≡ []) × (walked (shape true).rules [] (waits_at rows) word ≡ idle_at rows (Some word)))
    ⊎ (IsFault (turn_fault (shape true) [] (waits_at rows) word) × (number_in 1 64 word ≡ None))

pub value_word : (rows : List Row) (word : Text) → bytes_eq word (codes "--") ≡ false → Value rows word
unfolding clap_on_literals
value_word rows word dashes = long (long_of word) refl
  where
    bundle : (flags : Text) → long_of word ≡ None → short_of word ≡ Some flags → (n : ℕ) → length flags ≡ n → (o : Option ℕ) → slice_get (chars flags) 0 ≡ o → Value rows word
    bundle flags l s zero n o e = inl (rw (dashes, l, s, n) refl, rw (dashes, l, s, n) refl)
    bundle flags l s (suc k) n None e = inl (rw (dashes, l, s, n, e) refl, rw (dashes, l, s, n, e) refl)
    bundle flags l s (suc k) n (Some x) e = inr (rw (dashes, l, s, n, e) (is_fault _ _), short_is_no_number word flags s)

    short : long_of word ≡ None → (o : Option Text) → short_of word ≡ o → Value rows word
    short l None s = inl (rw (dashes, l, s) refl, rw (dashes, l, s) refl)
    short l (Some flags) s = bundle flags l s (length flags) refl (slice_get (chars flags) 0) refl

    long : (o : Option (Text × Option Text)) → long_of word ≡ o → Value rows word
    long None l = short l (short_of word) refl
    long (Some p) l =
        inr (
          rw (dashes, l) (λ e. long_waits rows (arg_by_long (shape true).rules p.0) p.1 (or_else_none (long_fault (shape true).rules false (arg_by_long (shape true).rules p.0) p.1 (waits_at rows).held) _ e).0),
          long_is_no_number word p.0 p.1 l,
        )
