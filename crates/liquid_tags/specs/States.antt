-- What an evaluation carries along: the text so far, the variables that were assigned, the counters, and where cycles stand.
use Rattle.std.specs.Prelude.{ℕ, ◌+◌, nat_lt, List, [], ◌++◌, length, if◌then◌else◌}
use Rattle.site_base.specs.Plain.{Plain, Pairs, no_pairs, set}
use Rattle.site_base.specs.declared.faults.FaultKind.TheVariants.{OutputTooLong}
use Rattle.site_base.specs.declared.faults.SiteFault.{SiteFault}
use Rattle.read_record.specs.Queries.{Query, Give, Fail}
use Rattle.filter_base.specs.Limits.{most_text}
use Rattle.liquid_values.specs.Places.{Place, site_fault, fault_at}
use Rattle.liquid_tags.specs.declared.state.State.{State}

-- each whole text starts with nothing
abbrev pub nothing_yet : State
nothing_yet = record { out = []; assigned = no_pairs; counters = no_pairs; turns = no_pairs }

abbrev pub with_out : List ℕ → State → State
with_out out s = record { out = out; assigned = s.assigned; counters = s.counters; turns = s.turns }

abbrev pub with_assigned : Pairs → State → State
with_assigned assigned s = record { out = s.out; assigned = assigned; counters = s.counters; turns = s.turns }

abbrev pub with_counters : Pairs → State → State
with_counters counters s = record { out = s.out; assigned = s.assigned; counters = counters; turns = s.turns }

abbrev pub with_turns : Pairs → State → State
with_turns turns s = record { out = s.out; assigned = s.assigned; counters = s.counters; turns = turns }

abbrev pub assign : List ℕ → Plain → State → State
assign x v s = with_assigned (set x v s.assigned) s

-- the text with more behind it, unless it is too long
abbrev pub written_or : SiteFault → List ℕ → State → Query SiteFault State
written_or fault t s = if nat_lt most_text (length s.out + length t) then Fail fault else Give (with_out (s.out ++ t) s)

-- a tag writes
abbrev pub written : Place → List ℕ → State → Query SiteFault State
written p t s = written_or (fault_at p OutputTooLong) t s

-- a piece of a template's text is written; its fault has no line
abbrev pub text_written : Place → List ℕ → State → Query SiteFault State
text_written p t s = if p.quiet then Give s else written_or (site_fault p.file 0 OutputTooLong) t s
