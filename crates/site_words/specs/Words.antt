-- What the words of a command line order, or the first thing that is wrong with them.
use Rattle.std.specs.Prelude.{◌≡◌, ⊤, ℕ, Bool, true, false, nat_eq, ◌&&◌, ◌-◌, ◌^◌, List, [], ◌∷◌, drop, codes, Option, Some, None, is_some, option_map, option_and_then, Result, Ok, Err, if◌then◌else◌}
use Rattle.std.specs.List.{list_any, starts_with}
use Rattle.std.specs.Option.{option_map_or}
use Rattle.std.specs.Str.{bytes_eq}
use Rattle.site_base.specs.declared.settings.Settings.{Settings}
use Rattle.site_words.specs.Numbers.{number_in}
use Rattle.site_words.specs.declared.options.Takes.{Takes}
use Rattle.site_words.specs.declared.options.Takes.TheVariants as takes
use Rattle.site_words.specs.declared.orders.Options.{Options}
use Rattle.site_words.specs.declared.orders.Order.{Order}
use Rattle.site_words.specs.declared.orders.Order.TheVariants as order
use Rattle.site_words.specs.declared.faults.UsageKind.{UsageKind}
use Rattle.site_words.specs.declared.faults.UsageKind.TheVariants as kind
use Rattle.site_words.specs.declared.faults.WordsError.{WordsError}
use Rattle.site_words.specs.declared.faults.WordsError.TheVariants as error

abbrev pub Text : Type 0
Text = List ℕ

-- ---- options

-- whether a command takes `--jobs` and `--why` besides `--drafts` and `--future`
abbrev pub has_jobs : Takes → Bool
has_jobs takes.Jobs = true
has_jobs takes.Settings = false

-- which options were given, `--jobs` with the text of its number
pub record Given : Type 0 where
  pub jobs : Option Text
  pub drafts : Bool
  pub future : Bool
  pub why : Bool

abbrev pub nothing_given : Given
nothing_given = record { jobs = None; drafts = false; future = false; why = false }

-- an option may be given once
abbrev pub first_time : Bool → Given → Option Given
first_time is_given given = if is_given then None else Some given

abbrev pub with_jobs : Given → Text → Option Given
with_jobs given number = first_time (is_some given.jobs) (record given { jobs = Some number })

-- a word that is an option as it stands; `--jobs` and `--why` are options of commands with jobs alone
abbrev pub with_word : Bool → Given → Text → Option Given
with_word takes_jobs given word =
    if bytes_eq word (codes "--drafts") then first_time given.drafts (record given { drafts = true })
    else if bytes_eq word (codes "--future") then first_time given.future (record given { future = true })
    else if takes_jobs && bytes_eq word (codes "--why") then first_time given.why (record given { why = true })
    else if takes_jobs && starts_with nat_eq word (codes "--jobs=") then with_jobs given (drop 7 word)
    else None

-- the options that the words are, where they are nothing else; the number of `--jobs` may be the next word
abbrev pub with_words : Bool → Given → List Text → Option Given
with_words takes_jobs given [] = Some given
with_words takes_jobs given (word ∷ []) = with_word takes_jobs given word
with_words takes_jobs given (word ∷ next ∷ rest) =
    if takes_jobs && bytes_eq word (codes "--jobs") then option_and_then (λ g. with_words takes_jobs g rest) (with_jobs given next)
    else option_and_then (λ g. with_words takes_jobs g (next ∷ rest)) (with_word takes_jobs given word)

abbrev pub jobs_of : Option Text → Option ℕ
jobs_of None = Some 1
jobs_of (Some number) = number_in 1 64 number

abbrev pub settings_of : Given → Settings
settings_of given = record { drafts = given.drafts; future = given.future }

abbrev pub options_of : Given → Option Options
options_of given = option_map (λ n. record { jobs = n; settings = settings_of given; why = given.why }) (jobs_of given.jobs)

abbrev pub options_in : Bool → List Text → Option Options
options_in takes_jobs words = option_and_then options_of (with_words takes_jobs nothing_given words)

-- the options that are answered are these; want of memory may come in their place
abbrev pub AnswersOptions : Option Options → Result Options WordsError → Type 0
AnswersOptions meant (Ok found) = meant ≡ Some found
AnswersOptions meant (Err (error.Usage found)) = (found ≡ kind.Option) × (meant ≡ None)
AnswersOptions meant (Err error.Memory) = ⊤

-- ---- commands

abbrev pub order_with : (Options → Order) → Option Options → Result Order UsageKind
order_with make options = option_map_or (λ o. Ok (make o)) options (Err kind.Option)

abbrev pub make_of : Option ℕ → Option ℕ → Result Order UsageKind
make_of (Some number) (Some count) = Ok (order.Make number count)
make_of _ _ = Err kind.Number

abbrev pub numbers_order : List Text → Result Order UsageKind
numbers_order (number ∷ count ∷ []) = make_of (number_in 0 (2 ^ 64 - 1) number) (number_in 1 1000 count)
numbers_order _ = Err kind.Number

abbrev pub make_order : List Text → Result Order UsageKind
make_order words = if list_any (λ word. starts_with nat_eq word (codes "-")) words then Err kind.Option else numbers_order words

abbrev pub command_order : Text → List Text → Result Order UsageKind
command_order name words =
    if bytes_eq name (codes "build") then order_with order.Build (options_in true words)
    else if bytes_eq name (codes "session") then order_with order.Session (options_in true words)
    else if bytes_eq name (codes "once") then order_with (λ o. order.Once o.settings) (options_in false words)
    else if bytes_eq name (codes "check") then order_with (λ o. order.Check o.settings) (options_in false words)
    else if bytes_eq name (codes "make") then make_order words
    else Err kind.Command

-- the order that the words of a command line are, or the first kind of what is wrong
abbrev pub words_order : List Text → Result Order UsageKind
words_order [] = Err kind.Missing
words_order (name ∷ words) = command_order name words

-- what is answered is what the words order; want of memory may come in its place
abbrev pub Answers : Result Order UsageKind → Result Order WordsError → Type 0
Answers meant (Ok found) = meant ≡ Ok found
Answers meant (Err (error.Usage found)) = meant ≡ Err found
Answers meant (Err error.Memory) = ⊤

-- the number that the program prints for a kind
abbrev pub usage_number : UsageKind → ℕ
usage_number kind.Missing = 1
usage_number kind.Command = 2
usage_number kind.Option = 3
usage_number kind.Number = 4
usage_number kind.Moment = 5
