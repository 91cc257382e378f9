-- What the words of a top call order, or what is wrong with them.
use Rattle.std.specs.Prelude.{ℕ, ℤ, Bool, ◌||◌, List, [], ◌∷◌, ◌++◌, codes, Result, Ok, Err, if◌then◌else◌}
use Rattle.std.specs.Str.{bytes_eq}
use Rattle.std.specs.Fmt.{decimal}
use Rattle.site_script.specs.Line.{is_moment}
use Rattle.site_words.specs.Words.{command_order, usage_number}
use Rattle.site_words.specs.declared.faults.UsageKind.{UsageKind}
use Rattle.site_words.specs.declared.faults.UsageKind.TheVariants as kind
use Rattle.site_words.specs.declared.orders.Order.{Order}
use Rattle.site_program.specs.declared.usage.TopCall.{TopCall}
use Rattle.site_program.specs.declared.usage.TopCall.TheVariants as call

abbrev pub usage_line : UsageKind → List ℕ
usage_line bad = codes "usage " ++ (decimal (usage_number bad) ++ codes "\n")

-- the words that a top call knows as commands
abbrev pub knows : TopCall → List ℕ → Bool
knows call.Once word = bytes_eq word (codes "once") || (bytes_eq word (codes "check") || bytes_eq word (codes "make"))
knows call.Jobs word = bytes_eq word (codes "build") || bytes_eq word (codes "session")

-- the moment is looked at last
abbrev pub timed : ℤ → Result Order UsageKind → Result Order UsageKind
timed moment (Ok order) = if is_moment moment then Ok order else Err kind.Moment
timed moment (Err bad) = Err bad

-- what the words of a top call order, or the first thing that is wrong with them
abbrev pub order_of : TopCall → List (List ℕ) → ℤ → Result Order UsageKind
order_of top [] moment = Err kind.Missing
order_of top (word ∷ words) moment = if knows top word then timed moment (command_order word words) else Err kind.Command
