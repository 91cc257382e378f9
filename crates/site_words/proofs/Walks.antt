-- The parser of command lines, word after word, against the definition.
use Rattle.std.proofs.Common.{◌≡◌, ◌∙◌, ℕ, Bool, cond, true, false, zero, suc, refl, sym, ap, subst, List, [], ◌∷◌, length, drop, Option, Some, None, inl, inr, ◌⊎◌, true≢false}
use Rattle.std.specs.Prelude.{⊤, codes, is_some, option_map, option_and_then, slice_get, ◌&&◌, ◌||◌, nat_eq}
use Rattle.std.specs.Str.{bytes_eq, chars}
use Rattle.std.specs.List.{list_any, starts_with}
use Rattle.std.proofs.lemmas.Bool.Decides.{Decides-eqb}
use Rattle.std.proofs.lemmas.Slice.Eq.{bytes_eq-Decides, starts_is}
use Rattle.clap.specs.Walk.{Held, Row, Text, arg_by_long, walk_from}
use Rattle.clap.specs.Faults.{long_fault, turn_fault}
use Rattle.clap.specs.Lexer.{long_of, short_of}
use Rattle.clap.specs.Kinds.{Kinds, or_else}
use Rattle.clap.proofs.OnLiterals.{clap_on_literals}
use Rattle.site_words.specs.Numbers.{number_in}
use Rattle.site_words.specs.Words.{Given, first_time, jobs_of, options_of, settings_of, with_jobs, with_word, with_words}
use Rattle.site_words.proofs.Lexing.{joined, long_is}
use Rattle.site_words.proofs.Parsing.{Goes, IsFault, Next, Settles, Shows, drafts_word, fails, future_word, goes_on, held, idle_at, is_fault, jobs_is_word, jobs_turn, meant, no_number, one_word, or_else_none, read, settle, settle_at, settled_at, shape, Value, value_word, waits_at, why_word}

same_bytes : (xs ys : Text) → bytes_eq xs ys ≡ true → xs ≡ ys
same_bytes xs ys e = (bytes_eq-Decides xs ys).0 e

-- ---- words that are no option

pub record IsOther (b : Bool) (word : Text) : Type 0 where
  pub dashes : bytes_eq word (codes "--") ≡ false
  pub drafts : bytes_eq word (codes "--drafts") ≡ false
  pub future : bytes_eq word (codes "--future") ≡ false
  pub why : (b && bytes_eq word (codes "--why")) ≡ false
  pub jobs_is : (b && starts_with nat_eq word (codes "--jobs=")) ≡ false
  pub jobs : (b && bytes_eq word (codes "--jobs")) ≡ false

other_means : (b : Bool) (word : Text) (g : Given) → IsOther b word → with_word b g word ≡ None
other_means b word g o = rw (o.drafts, o.future, o.why, o.jobs_is) refl

abbrev long_at : Bool → Held → Text → Option Text → Kinds
long_at b h name value = long_fault (shape b).rules false (arg_by_long (shape b).rules name) value h

other_long : (b : Bool) (h : Held) (name : Text) (value : Option Text) → IsOther b (45 ∷ 45 ∷ joined name value) → IsFault (long_at b h name value)
unfolding clap_on_literals
other_long b h name value o = drafts (bytes_eq (codes "drafts") name) refl
  where
    at_drafts : (b : Bool) (value : Option Text) → IsOther b (45 ∷ 45 ∷ joined (codes "drafts") value) → IsFault (long_at b h (codes "drafts") value)
    at_drafts b None o = absurd (true≢false o.drafts)
    at_drafts true (Some v) o = is_fault _ _
    at_drafts false (Some v) o = is_fault _ _

    at_future : (b : Bool) (value : Option Text) → IsOther b (45 ∷ 45 ∷ joined (codes "future") value) → IsFault (long_at b h (codes "future") value)
    at_future b None o = absurd (true≢false o.future)
    at_future true (Some v) o = is_fault _ _
    at_future false (Some v) o = is_fault _ _

    at_jobs : (value : Option Text) → IsOther true (45 ∷ 45 ∷ joined (codes "jobs") value) → IsFault (long_at true h (codes "jobs") value)
    at_jobs None o = absurd (true≢false o.jobs)
    at_jobs (Some v) o = absurd (true≢false o.jobs_is)

    at_why : (value : Option Text) → IsOther true (45 ∷ 45 ∷ joined (codes "why") value) → IsFault (long_at true h (codes "why") value)
    at_why None o = absurd (true≢false o.why)
    at_why (Some v) o = is_fault _ _

    none_else : (b : Bool) → bytes_eq (codes "drafts") name ≡ false → bytes_eq (codes "future") name ≡ false → IsOther b (45 ∷ 45 ∷ joined name value) → IsFault (long_at b h name value)
    none_else false d f o = rw (d, f) (is_fault _ _)
    none_else true d f o = jobs (bytes_eq (codes "jobs") name) refl
      where
        why : bytes_eq (codes "jobs") name ≡ false → (t : Bool) → bytes_eq (codes "why") name ≡ t → IsFault (long_at true h name value)
        why j true e = subst (λ n. IsOther true (45 ∷ 45 ∷ joined n value) → IsFault (long_at true h n value)) (same_bytes (codes "why") name e) (at_why value) o
        why j false e = rw (d, f, j, e) (is_fault _ _)

        jobs : (t : Bool) → bytes_eq (codes "jobs") name ≡ t → IsFault (long_at true h name value)
        jobs true e = subst (λ n. IsOther true (45 ∷ 45 ∷ joined n value) → IsFault (long_at true h n value)) (same_bytes (codes "jobs") name e) (at_jobs value) o
        jobs false e = why e (bytes_eq (codes "why") name) refl

    future : bytes_eq (codes "drafts") name ≡ false → (t : Bool) → bytes_eq (codes "future") name ≡ t → IsFault (long_at b h name value)
    future d true e = subst (λ n. IsOther b (45 ∷ 45 ∷ joined n value) → IsFault (long_at b h n value)) (same_bytes (codes "future") name e) (at_future b value) o
    future d false e = none_else b d e o

    drafts : (t : Bool) → bytes_eq (codes "drafts") name ≡ t → IsFault (long_at b h name value)
    drafts true e = subst (λ n. IsOther b (45 ∷ 45 ∷ joined n value) → IsFault (long_at b h n value)) (same_bytes (codes "drafts") name e) (at_drafts b value) o
    drafts false e = future e (bytes_eq (codes "future") name) refl

other_turn : (b : Bool) (h : Held) (word : Text) → h.skip ≡ 0 → IsOther b word → IsFault (turn_fault (shape b) [] (walk_from h) word)
unfolding clap_on_literals
other_turn b h word skip o = long b o (long_of word) refl
  where
    bundle : (b : Bool) (flags : Text) → long_of word ≡ None → short_of word ≡ Some flags → (n : ℕ) → length flags ≡ n → (x : Option ℕ) → slice_get (chars flags) 0 ≡ x
        → IsFault (turn_fault (shape b) [] (walk_from h) word)
    bundle true flags l s zero n x e = rw (o.dashes, l, s, n) (is_fault _ _)
    bundle true flags l s (suc k) n None e = rw (o.dashes, l, s, n, skip, e) (is_fault _ _)
    bundle true flags l s (suc k) n (Some x) e = rw (o.dashes, l, s, n, skip, e) (is_fault _ _)
    bundle false flags l s zero n x e = rw (o.dashes, l, s, n) (is_fault _ _)
    bundle false flags l s (suc k) n None e = rw (o.dashes, l, s, n, skip, e) (is_fault _ _)
    bundle false flags l s (suc k) n (Some x) e = rw (o.dashes, l, s, n, skip, e) (is_fault _ _)

    short : (b : Bool) → long_of word ≡ None → (x : Option Text) → short_of word ≡ x → IsFault (turn_fault (shape b) [] (walk_from h) word)
    short true l None s = rw (o.dashes, l, s) (is_fault _ _)
    short false l None s = rw (o.dashes, l, s) (is_fault _ _)
    short b l (Some flags) s = bundle b flags l s (length flags) refl (slice_get (chars flags) 0) refl

    long : (b : Bool) → IsOther b word → (x : Option (Text × Option Text)) → long_of word ≡ x → IsFault (turn_fault (shape b) [] (walk_from h) word)
    long b _ None l = short b l (short_of word) refl
    long true o (Some p) l = rw (o.dashes, l) (λ e. other_long true h p.0 p.1 (subst (IsOther true) (long_is word p.0 p.1 l) o) (or_else_none (long_at true h p.0 p.1) _ e).0)
    long false o (Some p) l = rw (o.dashes, l) (λ e. other_long false h p.0 p.1 (subst (IsOther false) (long_is word p.0 p.1 l) o) (or_else_none (long_at false h p.0 p.1) _ e).0)

-- ---- a number of `--jobs` that is none spoils all

abbrev Keeps : Option Given → Text → Type 0
Keeps o number = (o ≡ None) ⊎ ((h : Given) × (o ≡ Some h) × (h.jobs ≡ Some number))

-- an option keeps the number that was given
with_word_keeps : (b : Bool) (word : Text) (g : Given) (number : Text) → g.jobs ≡ Some number → Keeps (with_word b g word) number
with_word_keeps b word g number e =
    chain (bytes_eq word (codes "--drafts")) _ _ (once g.drafts (record g { drafts = true }) e)
    (chain (bytes_eq word (codes "--future")) _ _ (once g.future (record g { future = true }) e)
    (chain (b && bytes_eq word (codes "--why")) _ _ (once g.why (record g { why = true }) e)
    (chain (b && starts_with nat_eq word (codes "--jobs=")) _ _ (inl (ap (λ o. first_time (is_some o) (record g { jobs = Some (drop 7 word) })) e)) (inl refl))))
  where
    chain : (t : Bool) (x y : Option Given) → Keeps x number → Keeps y number → Keeps (cond t x y) number
    chain true x y h k = h
    chain false x y h k = k

    once : (t : Bool) (h : Given) → h.jobs ≡ Some number → Keeps (first_time t h) number
    once true h e = inl refl
    once false h e = inr (h, refl, e)

spoilt_end : (g : Given) (number : Text) → g.jobs ≡ Some number → number_in 1 64 number ≡ None → options_of g ≡ None
spoilt_end g number e none = ap (option_map (λ n. record { jobs = n; settings = settings_of g; why = g.why })) (ap jobs_of e ∙ none)

spoilt : (b : Bool) (words : List Text) (g : Given) (number : Text) → g.jobs ≡ Some number → number_in 1 64 number ≡ None → read b (Some g) words ≡ None
spoilt b [] g number e none = spoilt_end g number e none
spoilt b (word ∷ rest) g number e none = go (b && bytes_eq word (codes "--jobs")) refl (spoilt b rest)
  where
    after : (o : Option Given) → Keeps o number → ((g : Given) (number : Text) → g.jobs ≡ Some number → number_in 1 64 number ≡ None → read b (Some g) rest ≡ None)
        → option_and_then options_of (option_and_then (λ h. with_words b h rest) o) ≡ None
    after o (inl is) so = ap (λ x. option_and_then options_of (option_and_then (λ h. with_words b h rest) x)) is
    after o (inr (h, is, jobs)) so = ap (λ x. option_and_then options_of (option_and_then (λ h. with_words b h rest) x)) is ∙ so h number jobs none

    last_word : (o : Option Given) → Keeps o number → option_and_then options_of o ≡ None
    last_word o (inl is) = ap (option_and_then options_of) is
    last_word o (inr (h, is, jobs)) = ap (option_and_then options_of) is ∙ spoilt_end h number jobs none

    go : (t : Bool) → (b && bytes_eq word (codes "--jobs")) ≡ t → ((g : Given) (number : Text) → g.jobs ≡ Some number → number_in 1 64 number ≡ None → read b (Some g) rest ≡ None)
        → read b (Some g) (word ∷ rest) ≡ None
    go false t so = ap (option_and_then options_of) (one_word b g word rest t) ∙ after (with_word b g word) (with_word_keeps b word g number e) so
    go true t so = again rest t
      where
        again : (rest : List Text) → (b && bytes_eq word (codes "--jobs")) ≡ true → read b (Some g) (word ∷ rest) ≡ None
        again [] t = last_word (with_word b g word) (with_word_keeps b word g number e)
        again (next ∷ rest) t =
            ap (λ x. option_and_then options_of (cond x (option_and_then (λ h. with_words b h rest) (with_jobs g next)) (option_and_then (λ h. with_words b h (next ∷ rest)) (with_word b g word)))) t
            ∙ ap (λ o. option_and_then options_of (option_and_then (λ h. with_words b h rest) (first_time (is_some o) (record g { jobs = Some next })))) e

-- so does it where it comes now
spoilt_now : (b : Bool) (words : List Text) (g : Given) (number : Text) → number_in 1 64 number ≡ None → read b (with_jobs g number) words ≡ None
spoilt_now b words g number none = go (is_some g.jobs)
  where
    go : (t : Bool) → read b (first_time t (record g { jobs = Some number })) words ≡ None
    go true = refl
    go false = spoilt b words (record g { jobs = Some number }) number refl none

-- ---- a word `--` is no option and no number

abbrev pub is_dashes : Text → Bool
is_dashes word = bytes_eq word (codes "--")

pub with_dashes : (b : Bool) (words : List Text) (g : Given) → list_any is_dashes words ≡ true → read b (Some g) words ≡ None
with_dashes b [] g any = absurd (true≢false (sym any))
with_dashes b (word ∷ []) g any = go (is_dashes word) refl any b
  where
    go : (t : Bool) → is_dashes word ≡ t → (t || false) ≡ true → (b : Bool) → read b (Some g) (word ∷ []) ≡ None
    go true e any true = ap (λ w. read true (Some g) (w ∷ [])) (same_bytes word (codes "--") e)
    go true e any false = ap (λ w. read false (Some g) (w ∷ [])) (same_bytes word (codes "--") e)
    go false e any b = absurd (true≢false (sym any))
with_dashes b (word ∷ next ∷ rest) g any = go (is_dashes word) refl (with_dashes b (next ∷ rest)) (with_dashes b rest)
  where
    here : (b : Bool) → read b (Some g) (codes "--" ∷ next ∷ rest) ≡ None
    here true = refl
    here false = refl

    after : (words : List Text) (o : Option Given) → ((h : Given) → read b (Some h) words ≡ None) → option_and_then options_of (option_and_then (λ h. with_words b h words) o) ≡ None
    after words None so = refl
    after words (Some h) so = so h

    later : (list_any is_dashes (next ∷ rest) ≡ true) → ((h : Given) → list_any is_dashes (next ∷ rest) ≡ true → read b (Some h) (next ∷ rest) ≡ None)
        → ((h : Given) → list_any is_dashes rest ≡ true → read b (Some h) rest ≡ None) → read b (Some g) (word ∷ next ∷ rest) ≡ None
    later any so skip = waits (b && bytes_eq word (codes "--jobs")) refl
      where
        number : (t : Bool) → is_dashes next ≡ t → read b (with_jobs g next) rest ≡ None
        number true e = spoilt_now b rest g next (ap (number_in 1 64) (same_bytes next (codes "--") e))
        number false e = after rest (with_jobs g next) (λ h. skip h (ap (λ t. t || list_any is_dashes rest) (sym e) ∙ any))

        waits : (t : Bool) → (b && bytes_eq word (codes "--jobs")) ≡ t → read b (Some g) (word ∷ next ∷ rest) ≡ None
        waits true t =
            ap (λ x. option_and_then options_of (cond x (option_and_then (λ h. with_words b h rest) (with_jobs g next)) (option_and_then (λ h. with_words b h (next ∷ rest)) (with_word b g word)))) t
            ∙ number (is_dashes next) refl
        waits false t = ap (option_and_then options_of) (one_word b g word (next ∷ rest) t) ∙ after (next ∷ rest) (with_word b g word) (λ h. so h any)

    go : (t : Bool) → is_dashes word ≡ t → ((h : Given) → list_any is_dashes (next ∷ rest) ≡ true → read b (Some h) (next ∷ rest) ≡ None)
        → ((h : Given) → list_any is_dashes rest ≡ true → read b (Some h) rest ≡ None) → read b (Some g) (word ∷ next ∷ rest) ≡ None
    go true e so skip = ap (λ w. read b (Some g) (w ∷ next ∷ rest)) (same_bytes word (codes "--") e) ∙ here b
    go false e so skip = later (ap (λ t. t || list_any is_dashes (next ∷ rest)) (sym e) ∙ any) so skip

-- ---- word after word

-- how the words go on after the word that follows, where that is the number of `--jobs`
abbrev After : Bool → List Text → Type 0
After b [] = ⊤
After b (number ∷ rest) =
    b ≡ true → (rows : List Row) (g : Given) → Shows rows g → Goes b (idle_at rows (Some number)) rest (read b (meant g (Some number)) rest)

jobs_word : (rows : List Row) (p : Option Text) (g : Given) (rest : List Text) → list_any is_dashes rest ≡ false → Settles true rows p g → After true rest
    → Goes true (idle_at rows p) (codes "--jobs" ∷ rest) (read true (meant g p) (codes "--jobs" ∷ rest))
jobs_word rows p g rest dashes (inr (none, bad)) after =
    fails true _ (codes "--jobs") rest _ (λ e. bad (or_else_none (settle_at true rows p) [] (sym (jobs_turn rows p).0 ∙ e)).0) (ap (λ o. read true o (codes "--jobs" ∷ rest)) none)
jobs_word rows p g [] dashes (inl (new, is, fine, shown)) after =
    goes_on true _ (codes "--jobs") [] _ (waits_at (settled_at true rows p)) (jobs_turn rows p).1 ((jobs_turn rows p).0 ∙ ap (λ k. or_else k []) fine)
    (inr ((λ e. is_fault _ _ (sym (no_number (settled_at true rows p)) ∙ e)), ap (λ o. read true o (codes "--jobs" ∷ [])) is))
jobs_word rows p g (number ∷ rest) dashes (inl (new, is, fine, shown)) after =
    goes_on true _ (codes "--jobs") (number ∷ rest) _ (waits_at (settled_at true rows p)) (jobs_turn rows p).1 ((jobs_turn rows p).0 ∙ ap (λ k. or_else k []) fine)
    (go (value_word (settled_at true rows p) number (head (is_dashes number) dashes)))
  where
    head : (t : Bool) → (t || list_any is_dashes rest) ≡ false → t ≡ false
    head true e = e
    head false e = refl

    same : read true (meant g p) (codes "--jobs" ∷ number ∷ rest) ≡ read true (meant new (Some number)) rest
    same = ap (λ o. read true o (codes "--jobs" ∷ number ∷ rest)) is

    go : Value (settled_at true rows p) number → Goes true (waits_at (settled_at true rows p)) (number ∷ rest) (read true (meant g p) (codes "--jobs" ∷ number ∷ rest))
    go (inl (turn, walk)) =
        subst (Goes true (waits_at (settled_at true rows p)) (number ∷ rest)) (sym same)
        (goes_on true _ number rest _ (idle_at (settled_at true rows p) (Some number)) walk turn (after refl (settled_at true rows p) new shown))
    go (inr (bad, none)) = fails true _ number rest _ bad (same ∙ spoilt_now true rest new number none)

no_skip : (rows : List Row) (p : Option Text) → (held rows p).skip ≡ 0
no_skip rows None = refl
no_skip rows (Some n) = refl

other_word : (b : Bool) (word : Text) (rows : List Row) (p : Option Text) (g : Given) (rest : List Text) → IsOther b word
    → Goes b (idle_at rows p) (word ∷ rest) (read b (meant g p) (word ∷ rest))
other_word b word rows p g rest o = fails b _ word rest _ (other_turn b (held rows p) word (no_skip rows p) o) (go (meant g p))
  where
    go : (x : Option Given) → read b x (word ∷ rest) ≡ None
    go None = refl
    go (Some h) = ap (option_and_then options_of) (one_word b h word rest o.jobs ∙ ap (option_and_then (λ x. with_words b x rest)) (other_means b word h o))

-- any word, where what follows goes as it should
any_word : (b : Bool) (word : Text) (rows : List Row) (p : Option Text) (g : Given) (rest : List Text) → is_dashes word ≡ false → list_any is_dashes rest ≡ false
    → Settles b rows p g → Next b rest → After b rest → Goes b (idle_at rows p) (word ∷ rest) (read b (meant g p) (word ∷ rest))
any_word b word rows p g rest dashes later settles next after = drafts (bytes_eq word (codes "--drafts")) refl
  where
    jobs_is : bytes_eq word (codes "--drafts") ≡ false → bytes_eq word (codes "--future") ≡ false → (b && bytes_eq word (codes "--why")) ≡ false → (b && bytes_eq word (codes "--jobs")) ≡ false
        → (t : Bool) → (b && starts_with nat_eq word (codes "--jobs=")) ≡ t → Goes b (idle_at rows p) (word ∷ rest) (read b (meant g p) (word ∷ rest))
    jobs_is d f w j false e = other_word b word rows p g rest (record { dashes = dashes; drafts = d; future = f; why = w; jobs_is = e; jobs = j })
    jobs_is d f w j true e = at b e settles next
      where
        at : (b : Bool) → (b && starts_with nat_eq word (codes "--jobs=")) ≡ true → Settles b rows p g → Next b rest → Goes b (idle_at rows p) (word ∷ rest) (read b (meant g p) (word ∷ rest))
        at false e settles next = absurd (true≢false (sym e))
        at true e settles next =
            subst (λ w. Goes true (idle_at rows p) (w ∷ rest) (read true (meant g p) (w ∷ rest))) (sym ((starts_is Decides-eqb word (codes "--jobs=") _ refl).0 e))
            (jobs_is_word (drop 7 word) rows p g rest settles next)

    jobs : bytes_eq word (codes "--drafts") ≡ false → bytes_eq word (codes "--future") ≡ false → (b && bytes_eq word (codes "--why")) ≡ false
        → (t : Bool) → (b && bytes_eq word (codes "--jobs")) ≡ t → Goes b (idle_at rows p) (word ∷ rest) (read b (meant g p) (word ∷ rest))
    jobs d f w false e = jobs_is d f w e (b && starts_with nat_eq word (codes "--jobs=")) refl
    jobs d f w true e = at b e settles after
      where
        at : (b : Bool) → (b && bytes_eq word (codes "--jobs")) ≡ true → Settles b rows p g → After b rest → Goes b (idle_at rows p) (word ∷ rest) (read b (meant g p) (word ∷ rest))
        at false e settles after = absurd (true≢false (sym e))
        at true e settles after =
            subst (λ w. Goes true (idle_at rows p) (w ∷ rest) (read true (meant g p) (w ∷ rest))) (sym (same_bytes word (codes "--jobs") e)) (jobs_word rows p g rest later settles after)

    why : bytes_eq word (codes "--drafts") ≡ false → bytes_eq word (codes "--future") ≡ false
        → (t : Bool) → (b && bytes_eq word (codes "--why")) ≡ t → Goes b (idle_at rows p) (word ∷ rest) (read b (meant g p) (word ∷ rest))
    why d f false e = jobs d f e (b && bytes_eq word (codes "--jobs")) refl
    why d f true e = at b e settles next
      where
        at : (b : Bool) → (b && bytes_eq word (codes "--why")) ≡ true → Settles b rows p g → Next b rest → Goes b (idle_at rows p) (word ∷ rest) (read b (meant g p) (word ∷ rest))
        at false e settles next = absurd (true≢false (sym e))
        at true e settles next =
            subst (λ w. Goes true (idle_at rows p) (w ∷ rest) (read true (meant g p) (w ∷ rest))) (sym (same_bytes word (codes "--why") e)) (why_word rows p g rest settles next)

    future : bytes_eq word (codes "--drafts") ≡ false → (t : Bool) → bytes_eq word (codes "--future") ≡ t → Goes b (idle_at rows p) (word ∷ rest) (read b (meant g p) (word ∷ rest))
    future d false e = why d e (b && bytes_eq word (codes "--why")) refl
    future d true e =
        subst (λ w. Goes b (idle_at rows p) (w ∷ rest) (read b (meant g p) (w ∷ rest))) (sym (same_bytes word (codes "--future") e)) (future_word b rows p g rest settles next)

    drafts : (t : Bool) → bytes_eq word (codes "--drafts") ≡ t → Goes b (idle_at rows p) (word ∷ rest) (read b (meant g p) (word ∷ rest))
    drafts false e = future e (bytes_eq word (codes "--future")) refl
    drafts true e =
        subst (λ w. Goes b (idle_at rows p) (w ∷ rest) (read b (meant g p) (w ∷ rest))) (sym (same_bytes word (codes "--drafts") e)) (drafts_word b rows p g rest settles next)

or_no : (a c : Bool) → (a || c) ≡ false → (a ≡ false) × (c ≡ false)
or_no true c e = absurd (true≢false e)
or_no false c e = (refl, e)

pub walks : (b : Bool) (words : List Text) (rows : List Row) (p : Option Text) (g : Given) → Shows rows g → (is_some p ≡ true → b ≡ true) → list_any is_dashes words ≡ false
    → Goes b (idle_at rows p) words (read b (meant g p) words)
unfolding clap_on_literals
walks b [] rows p g shows many dashes = elim (settle b rows p g shows many) [
  | inl (new, is, fine, shown) ↦ inl (new, shown, fine, ap (λ o. read b o []) is)
  | inr (none, bad) ↦ inr (bad, ap (λ o. read b o []) none)
]
walks b (word ∷ []) rows p g shows many dashes =
    any_word b word rows p g [] (or_no _ _ dashes).0 refl (settle b rows p g shows many) (λ rows g shows. walks b [] rows None g shows (λ e. absurd (true≢false (sym e))) refl) tt
walks b (word ∷ next ∷ rest) rows p g shows many dashes =
    let later : list_any is_dashes (next ∷ rest) ≡ false = (or_no (is_dashes word) _ dashes).1 in
    any_word b word rows p g (next ∷ rest) (or_no (is_dashes word) _ dashes).0 later (settle b rows p g shows many)
    (λ rows g shows. walks b (next ∷ rest) rows None g shows (λ e. absurd (true≢false (sym e))) later)
    (λ is rows g shows. walks b rest rows (Some next) g shows (λ _. is) (or_no (is_dashes next) _ later).1)
