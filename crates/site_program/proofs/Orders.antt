-- What the words of a top call may order.
use Rattle.std.proofs.Common.{◌≡◌, ◌≤◌, ◌-◌, ◌^◌, ◌&&◌, ◌||◌, inl, inr, ℤ, Bool, true, false, cond, List, ℕ, [], ◌∷◌, nat_eq, nat_le, refl, sym, ◌∙◌, ap, subst, Option, Some, None, Result, Ok, Err, arith}
use Rattle.std.specs.Prelude.{codes, option_and_then, option_map}
use Rattle.std.specs.List.{list_any, starts_with}
use Rattle.std.specs.Str.{bytes_eq}
use Rattle.std.specs.Str.Parse.{digits_value, without_leading_plus}
use Rattle.std.proofs.lemmas.Bool.{and_parts, leb-true, or_cases}
use Rattle.std.proofs.lemmas.Slice.Eq.{bytes_eq-Decides}
use Rattle.site_base.specs.declared.settings.Settings.{Settings}
use Rattle.site_script.specs.Line.{is_moment}
use Rattle.site_session.specs.Session.{start}
use Rattle.site_words.specs.Numbers.{is_digits, number_in}
use Rattle.site_words.specs.Words.{Given, command_order, jobs_of, make_of, make_order, nothing_given, numbers_order, options_in, options_of, order_with, settings_of, with_words}
use Rattle.site_words.specs.declared.faults.UsageKind.{UsageKind}
use Rattle.site_words.specs.declared.faults.UsageKind.TheVariants as kind
use Rattle.site_words.specs.declared.orders.Options.{Options}
use Rattle.site_words.specs.declared.orders.Order.{Order}
use Rattle.site_words.specs.declared.orders.Order.TheVariants as order
use Rattle.site_program.specs.Usage.{knows, order_of, timed}
use Rattle.site_program.specs.declared.usage.TopCall.{TopCall}
use Rattle.site_program.specs.declared.usage.TopCall.TheVariants as call

-- an order that one of two tests lets through
chosen : (b : Bool) (r : Result Order UsageKind) (bad : UsageKind) (o : Order) → cond b r (Err bad) ≡ Ok o → (b ≡ true) × (r ≡ Ok o)
chosen true r bad o e = (refl, e)
chosen false r bad o e = absurd (cc (e))

timed_is : (m : ℤ) (r : Result Order UsageKind) (o : Order) → timed m r ≡ Ok o → (is_moment m ≡ true) × (r ≡ Ok o)
timed_is m (Ok made) o e = chosen (is_moment m) (Ok made) kind.Moment o e
timed_is m (Err bad) o e = absurd (cc (e))

-- where there is an order, the moment is in its range
pub in_time : (top : TopCall) (words : List (List ℕ)) (m : ℤ) (o : Order) → order_of top words m ≡ Ok o → is_moment m ≡ true
in_time top [] m o e = absurd (cc (e))
in_time top (w ∷ ws) m o e = (timed_is m (command_order w ws) o (chosen (knows top w) (timed m (command_order w ws)) kind.Command o e).1).0

-- how many posts a made-up site may have, and how many threads a build
pub record InRange (most count : ℕ) : Type 0 where
  pub low : 1 ≤ count
  pub high : count ≤ most

-- the orders of a top call
abbrev pub Knows : TopCall → Order → Type 0
Knows call.Once (order.Once settings) = Unit {0}
Knows call.Once (order.Check settings) = Unit {0}
Knows call.Once (order.Build options) = ⊥
Knows call.Once (order.Session options) = ⊥
Knows call.Once (order.Make number count) = InRange 1000 count
Knows call.Jobs (order.Build options) = InRange 64 options.jobs
Knows call.Jobs (order.Session options) = InRange 64 options.jobs
Knows call.Jobs (order.Once settings) = ⊥
Knows call.Jobs (order.Check settings) = ⊥
Knows call.Jobs (order.Make number count) = ⊥

made_with : (make : Options → Order) (options : Option Options) (o : Order) (P : Order → Type 0) → ((x : Options) → options ≡ Some x → P (make x)) → order_with make options ≡ Ok o → P o
made_with make None o P h e = absurd (cc (e))
made_with make (Some x) o P h e = let same : make x ≡ o = cc in subst P same (h x refl)

range_by : (t : Bool) (v most m : ℕ) → (t ≡ true → InRange most v) → cond t (Some v) None ≡ Some m → InRange most m
range_by true v most m h e = let same : v ≡ m = cc in subst (InRange most) same (h refl)
range_by false v most m h e = absurd (cc (e))

number_in_range : (most : ℕ) (text : List ℕ) (m : ℕ) → number_in 1 most text ≡ Some m → InRange most m
number_in_range most text m e =
    let digits = without_leading_plus text in
    let v = digits_value 10 digits in
    range_by (is_digits digits && (nat_le 1 v && nat_le v most)) v most m (λ is.
    let both = and_parts (nat_le 1 v) (nat_le v most) (and_parts (is_digits digits) (nat_le 1 v && nat_le v most) is).1 in
    record { low = leb-true 1 v both.0; high = leb-true v most both.1 }) e

jobs_range : (jobs : Option (List ℕ)) (m : ℕ) → jobs_of jobs ≡ Some m → InRange 64 m
jobs_range None m e = let same : 1 ≡ m = cc in subst (InRange 64) same (record { low = omega arith; high = omega arith })
jobs_range (Some number) m e = number_in_range 64 number m e

options_range : (given : Given) (x : Options) → options_of given ≡ Some x → InRange 64 x.jobs
options_range given x e = by (jobs_of given.jobs) refl e
  where
    by : (jobs : Option ℕ) → jobs_of given.jobs ≡ jobs → option_map (λ (n : ℕ). record { jobs = n; settings = settings_of given; why = given.why }) jobs ≡ Some x → InRange 64 x.jobs
    by None is e = absurd (cc (e))
    by (Some n) is e =
        let made : Options = record { jobs = n; settings = settings_of given; why = given.why } in
        let same : made ≡ x = cc in
        subst (λ (o : Options). InRange 64 o.jobs) same (jobs_range given.jobs n is)

threads_in_range : (ws : List (List ℕ)) (x : Options) → options_in true ws ≡ Some x → InRange 64 x.jobs
threads_in_range ws x e = by (with_words true nothing_given ws) e
  where
    by : (given : Option Given) → option_and_then options_of given ≡ Some x → InRange 64 x.jobs
    by None e = absurd (cc (e))
    by (Some given) e = options_range given x e

made_of : (a b : Option ℕ) (o : Order) → ((m : ℕ) → b ≡ Some m → InRange 1000 m) → make_of a b ≡ Ok o → Knows call.Once o
made_of (Some n) (Some m) o h e = let same : order.Make n m ≡ o = cc in subst (Knows call.Once) same (h m refl)
made_of (Some n) None o h e = absurd (cc (e))
made_of None (Some m) o h e = absurd (cc (e))
made_of None None o h e = absurd (cc (e))

numbers_known : (ws : List (List ℕ)) (o : Order) → numbers_order ws ≡ Ok o → Knows call.Once o
numbers_known [] o e = absurd (cc (e))
numbers_known (a ∷ []) o e = absurd (cc (e))
numbers_known (a ∷ b ∷ []) o e = made_of (number_in 0 (2 ^ 64 - 1) a) (number_in 1 1000 b) o (number_in_range 1000 b) e
numbers_known (a ∷ b ∷ c ∷ ws) o e = absurd (cc (e))

passed : (b : Bool) (r : Result Order UsageKind) (bad : UsageKind) (o : Order) → cond b (Err bad) r ≡ Ok o → r ≡ Ok o
passed true r bad o e = absurd (cc (e))
passed false r bad o e = e

makes_known : (ws : List (List ℕ)) (o : Order) → make_order ws ≡ Ok o → Knows call.Once o
makes_known ws o e = numbers_known ws o (passed (list_any (λ word. starts_with nat_eq word (codes "-")) ws) (numbers_order ws) kind.Option o e)

is_word : (w v : List ℕ) (ws : List (List ℕ)) (o : Order) → bytes_eq w v ≡ true → command_order w ws ≡ Ok o → command_order v ws ≡ Ok o
is_word w v ws o h is = subst (λ x. command_order x ws ≡ Ok o) ((bytes_eq-Decides w v).0 h) is

-- a top call orders nothing but its own commands
pub known : (top : TopCall) (words : List (List ℕ)) (m : ℤ) (o : Order) → order_of top words m ≡ Ok o → Knows top o
known top [] m o e = absurd (cc (e))
known call.Once (w ∷ ws) m o e =
    let both = chosen (knows call.Once w) (timed m (command_order w ws)) kind.Command o e in
    let is = (timed_is m (command_order w ws) o both.1).1 in
    elim (or_cases (bytes_eq w (codes "once")) (bytes_eq w (codes "check") || bytes_eq w (codes "make")) both.0) [
      | inl h ↦ made_with (λ x. order.Once x.settings) (options_in false ws) o (Knows call.Once) (λ x some. tt) (is_word w (codes "once") ws o h is)
      | inr others ↦ elim (or_cases (bytes_eq w (codes "check")) (bytes_eq w (codes "make")) others) [
        | inl h ↦ made_with (λ x. order.Check x.settings) (options_in false ws) o (Knows call.Once) (λ x some. tt) (is_word w (codes "check") ws o h is)
        | inr h ↦ makes_known ws o (is_word w (codes "make") ws o h is)
      ]
    ]
known call.Jobs (w ∷ ws) m o e =
    let both = chosen (knows call.Jobs w) (timed m (command_order w ws)) kind.Command o e in
    let is = (timed_is m (command_order w ws) o both.1).1 in
    elim (or_cases (bytes_eq w (codes "build")) (bytes_eq w (codes "session")) both.0) [
      | inl h ↦ made_with order.Build (options_in true ws) o (Knows call.Jobs) (λ x some. threads_in_range ws x some) (is_word w (codes "build") ws o h is)
      | inr h ↦ made_with order.Session (options_in true ws) o (Knows call.Jobs) (λ x some. threads_in_range ws x some) (is_word w (codes "session") ws o h is)
    ]

-- so no arm besides those is reached
pub none_for_once : (o : Order) → Knows call.Once o → ((s : Settings) → o ≡ order.Once s → ⊥) → ((s : Settings) → o ≡ order.Check s → ⊥) → ((n c : ℕ) → o ≡ order.Make n c → ⊥) → ⊥
none_for_once (order.Once s) h no_once no_check no_make = no_once s refl
none_for_once (order.Check s) h no_once no_check no_make = no_check s refl
none_for_once (order.Build options) h no_once no_check no_make = h
none_for_once (order.Session options) h no_once no_check no_make = h
none_for_once (order.Make number count) h no_once no_check no_make = no_make number count refl

pub none_for_jobs : (o : Order) → Knows call.Jobs o → ((x : Options) → o ≡ order.Build x → ⊥) → ((x : Options) → o ≡ order.Session x → ⊥) → ⊥
none_for_jobs (order.Build x) h no_build no_session = no_build x refl
none_for_jobs (order.Session x) h no_build no_session = no_session x refl
none_for_jobs (order.Once s) h no_build no_session = h
none_for_jobs (order.Check s) h no_build no_session = h
none_for_jobs (order.Make number count) h no_build no_session = h

-- the settings and options of one order
pub same_once : (o : Order) (s t : Settings) → o ≡ order.Once s → o ≡ order.Once t → s ≡ t
same_once o s t a b = let both : order.Once s ≡ order.Once t = sym a ∙ b in cc

pub same_check : (o : Order) (s t : Settings) → o ≡ order.Check s → o ≡ order.Check t → s ≡ t
same_check o s t a b = let both : order.Check s ≡ order.Check t = sym a ∙ b in cc

pub same_make : (o : Order) (a b c d : ℕ) → o ≡ order.Make a b → o ≡ order.Make c d → (a ≡ c) × (b ≡ d)
same_make o a b c d x y = let both : order.Make a b ≡ order.Make c d = sym x ∙ y in (cc, cc)

-- the count of an order to make a site is in its range
pub makes_in_range : (words : List (List ℕ)) (m : ℤ) (o : Order) (n c : ℕ) → order_of call.Once words m ≡ Ok o → o ≡ order.Make n c → InRange 1000 c
makes_in_range words m o n c e is = subst (Knows call.Once) is (known call.Once words m o e)

-- the number of threads of an order is in its range
pub build_jobs_in_range : (words : List (List ℕ)) (m : ℤ) (o : Order) (x : Options) → order_of call.Jobs words m ≡ Ok o → o ≡ order.Build x → (1 ≤ x.jobs) × (x.jobs ≤ 64)
build_jobs_in_range words m o x e is = let r = subst (Knows call.Jobs) is (known call.Jobs words m o e) in (r.low, r.high)

pub session_jobs_in_range : (words : List (List ℕ)) (m : ℤ) (o : Order) (x : Options) → order_of call.Jobs words m ≡ Ok o → o ≡ order.Session x → (1 ≤ x.jobs) × (x.jobs ≤ 64)
session_jobs_in_range words m o x e is = let r = subst (Knows call.Jobs) is (known call.Jobs words m o e) in (r.low, r.high)

pub same_build : (o : Order) (x y : Options) → o ≡ order.Build x → o ≡ order.Build y → x ≡ y
same_build o x y a b = let both : order.Build x ≡ order.Build y = sym a ∙ b in cc

pub same_session : (o : Order) (x y : Options) → o ≡ order.Session x → o ≡ order.Session y → x ≡ y
same_session o x y a b = let both : order.Session x ≡ order.Session y = sym a ∙ b in cc

abbrev made_or : Order → Result Order UsageKind → Order
made_or other (Ok o) = o
made_or other (Err bad) = other

-- what the words order at a moment, told of the moment as it is handed on
pub ordered : (top : TopCall) (words : List (List ℕ)) (m n : ℤ) (o p : Order) → m ≡ n → order_of top words m ≡ Ok o → order_of top words n ≡ Ok p → o ≡ p
ordered top words m n o p same a b = ap (made_or o) (sym a ∙ ap (λ z. order_of top words z) same ∙ b)

pub same_start : (s t : Settings) (m n : ℤ) → s ≡ t → m ≡ n → start s m ≡ start t n
same_start s t m n settings_is moment_is i = start (settings_is i) (moment_is i)
